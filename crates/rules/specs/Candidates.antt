-- The candidates of a node in their order, and the first of the largest.
use Rattle.std.specs.Prelude.{◌≡◌, ℕ, ◌<◌, ◌⊎◌, List, ℤ, ◌≤ℤ◌, ◌<ℤ◌, Some}
use Rattle.horizon.specs.Means.{Rounding, mean}
use Rattle.components.specs.Nodes.{node_of, component_at}
use Rattle.components.specs.Depth.{Leaving}
use Rattle.rules.specs.Choosing.{at_z}
use Rattle.rules.specs.Setting.{Setting}
use Rattle.rules.specs.declared.exit.Candidate.{Candidate}
use Rattle.rules.specs.declared.exit.Exit.{Exit}
use Rattle.rules.specs.declared.exit.Exit.TheVariants.{Stay, Leave}

-- to stay in component i, for its bound
abbrev pub stay_candidate : List ℤ → ℕ → Candidate
stay_candidate bounds i = record { value = at_z bounds i; exit = Stay }

-- to leave by choice c of state s, for f s c
abbrev pub leave_candidate : (ℕ → ℕ → ℤ) → ℕ → ℕ → Candidate
leave_candidate f s c = record { value = f s c; exit = Leave s c }

-- the mean after a choice of the values of the successors' nodes
abbrev pub mean_of : Setting → Rounding → List ℤ → ℕ → ℕ → ℤ
mean_of M rounds values s c = mean rounds M.table s c (λ u. at_z values (node_of M.table u))

-- a candidate of the node v: to stay if it is a component, or one of its leaving choices
pub data CandidateOf (M : Setting) (rounds : Rounding) (bounds values : List ℤ) (v : ℕ) (a : Candidate) : Type 0 where
  stays : (i : ℕ) → component_at M.table v ≡ Some i → a ≡ stay_candidate bounds i → CandidateOf M rounds bounds values v a
  leaves : (s c : ℕ) → Leaving M.table v s c → a ≡ leave_candidate (mean_of M rounds values) s c → CandidateOf M rounds bounds values v a

-- the order: staying comes first, then leaving by state and by choice
abbrev pub Earlier : Exit → Exit → Type 0
Earlier Stay Stay = ⊥
Earlier Stay (Leave t d) = Unit {0}
Earlier (Leave s c) Stay = ⊥
Earlier (Leave s c) (Leave t d) = (s < t) ⊎ ((s ≡ t) × (c < d))

-- b is a candidate, none is larger, and each earlier one is smaller
pub record FirstBest (C : Candidate → Type 0) (b : Candidate) : Type 0 where
  pub candidate : C b
  pub largest : (a : Candidate) → C a → a.value ≤ℤ b.value
  pub first : (a : Candidate) → C a → Earlier a.exit b.exit → a.value <ℤ b.value
