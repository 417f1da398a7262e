-- What the code of a sweep answers of a node.
use Rattle.std.specs.Prelude.{ℕ, Bool, ◌&&◌, List, ℤ, Some, None, Option}
use Rattle.rules.specs.Choosing.{eq_z, at_z}
use Rattle.rules.specs.Book.{Book}
use Rattle.rules.specs.Candidates.{stay_candidate}
use Rattle.rules.specs.declared.exit.Candidate.{Candidate}

-- neither x nor y of node v differs
abbrev pub same_at : Book → Book → ℕ → Bool
same_at A B v = eq_z (at_z A.x v) (at_z B.x v) && eq_z (at_z A.y v) (at_z B.y v)

-- `staying` by the component that a node is, if it is one: to stay, for its bound
abbrev pub stay_in : Option ℕ → List ℤ → Option Candidate
stay_in None bounds = None
stay_in (Some i) bounds = Some (stay_candidate bounds i)
