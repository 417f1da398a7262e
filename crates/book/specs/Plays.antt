-- What the code that writes the plan works with: distances within a node, and the choice that a state plays.
use Rattle.std.specs.Prelude.{◌≡◌, ℕ, ◌<◌, Bool, cond, ◌&&◌, Some, None, List, Option, ◌==◌, nat_eq, slice_index_or}
use Rattle.std.specs.Option.{option_eq}
use Rattle.table.specs.Table.{Table}
use Rattle.components.specs.Below.{first}
use Rattle.components.specs.Inside.{inside}
use Rattle.components.specs.Nodes.{node_of}
use Rattle.rules.specs.Choosing.{at}
use Rattle.rules.specs.Play.{enters, distance, toward}
use Rattle.rules.specs.declared.exit.Exit.{Exit}
use Rattle.rules.specs.declared.exit.Exit.TheVariants.{Stay, Leave}

-- the mark of a state, where it has one
abbrev pub mark_at : List (Option ℕ) → ℕ → Option ℕ
mark_at distances u = slice_index_or distances u None

-- the state u has the mark k
abbrev pub has_mark : List (Option ℕ) → ℕ → ℕ → Bool
has_mark distances k u = option_eq nat_eq (mark_at distances u) (Some k)

-- the choice c of s is inside and has a branch to a state with the mark k; the first such choice
abbrev pub inside_into : Table → List (Option ℕ) → ℕ → ℕ → ℕ → Bool
inside_into T distances k s c = inside T s c && enters T (has_mark distances k) s c

abbrev pub first_into : Table → List (Option ℕ) → ℕ → ℕ → ℕ
first_into T distances k s = first (T.choices s) (inside_into T distances k s)

-- s is a state without a mark, and one of its inside choices has a branch to a state with the mark k
abbrev pub Fresh : Table → ℕ → ℕ → List (Option ℕ) → Type 0
Fresh T k s distances = (mark_at distances s ≡ None) × (first_into T distances k s < T.choices s)

-- the marks of the states of node v are their distances to t
abbrev pub Measured : Table → ℕ → ℕ → List (Option ℕ) → Type 0
Measured T v t distances = (s : ℕ) → s < T.states → node_of T s ≡ v → mark_at distances s ≡ Some (distance T t s)

-- the marks that an exit of node v asks for
abbrev pub Ready : Table → ℕ → Exit → List (Option ℕ) → Type 0
Ready T v Stay distances = Unit {0}
Ready T v (Leave t c) distances = Measured T v t distances

-- `play` of a state by the exit of its node
abbrev pub play_by : Table → List ℕ → Exit → ℕ → ℕ
play_by T recorded Stay s = at recorded s
play_by T recorded (Leave t c) s = cond (s == t) c (toward T t s)
