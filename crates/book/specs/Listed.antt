-- Lists made from the parts of a table.
use Rattle.std.specs.Prelude.{◌≡◌, ℕ, ◌<◌, List, length, Some, None, Option, slice_index, slice_index_or}

-- a branch with the node of its successor in the successor's place
abbrev pub link_of : (ℕ → ℕ) → ℕ × ℕ → ℕ × ℕ
link_of node branch = (node branch.0, branch.1)

-- at the place of each component that a node below n is, if the list has the place, stands a node that is that component
abbrev pub HomesBelow : List (Option ℕ) → ℕ → List ℕ → Type 0
HomesBelow component n home =
    (v k : ℕ) → v < n → slice_index_or component v None ≡ Some k → k < length home
    → (slice_index home k < length component) × (slice_index_or component (slice_index home k) None ≡ Some k)

-- the same of each node
abbrev pub Homes : List (Option ℕ) → List ℕ → Type 0
Homes component home = HomesBelow component (length component) home
