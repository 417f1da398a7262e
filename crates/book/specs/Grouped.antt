-- The states of each node, one node after the other.
use Rattle.std.specs.Prelude.{◌≡◌, ℕ, ◌+◌, ◌-◌, ◌<◌, ◌≤◌, List, length, take, drop, filter, nat_eq, nat_lt, slice_index, slice_index_or}
use Rattle.std.specs.List.{range_with_len}

-- of the first k states those of the node v
abbrev pub states_at : (ℕ → ℕ) → ℕ → ℕ → List ℕ
states_at node k v = filter (λ s. nat_eq (node s) v) (range_with_len 0 k)

-- of the first k states those of a node below n
abbrev pub states_below : (ℕ → ℕ) → ℕ → ℕ → List ℕ
states_below node k n = filter (λ s. nat_lt (node s) n) (range_with_len 0 k)

-- the members are those of the first k states that are in the first n nodes; those of the node v begin where `starts` says at v
pub record Grouped (node : ℕ → ℕ) (k n : ℕ) (starts members : List ℕ) : Type 0 where
  pub size : length starts ≡ n + 1
  pub few : length members ≤ length (states_below node k n)
  pub last : slice_index_or starts n 0 ≡ length members
  pub rises : (v : ℕ) → v < n → slice_index starts v ≤ slice_index starts (v + 1)
  pub within : (v : ℕ) → v < n → slice_index starts (v + 1) ≤ length members
  pub at : (v : ℕ) → v < n
      → take (slice_index starts (v + 1) - slice_index starts v) (drop (slice_index starts v) members) ≡ states_at node k v
