-- How large a number can be, either way.
use Rattle.std.specs.Prelude.{ℕ, ◌^◌, ◌<◌, List, length, ℤ, pos, neg_ℤ, ◌≤ℤ◌, slice_index_or}

-- z lies between -b and b
abbrev pub Bounded : ℕ → ℤ → Type 0
Bounded b z = (neg_ℤ (pos b) ≤ℤ z) × (z ≤ℤ pos b)

-- each number lies between -2^46 and 2^46, so that no weighted sum overflows
abbrev pub AllBounded : List ℤ → Type 0
AllBounded values = (k : ℕ) → k < length values → Bounded (2 ^ 46) (slice_index_or values k (pos 0))
