-- The weighted sum over a run of branches, each a place and a weight.
use Rattle.std.specs.Prelude.{ℕ, List, length, ℤ, pos, slice_index_or}
use Rattle.horizon.specs.Sums.{weighted_z}

-- the place and the weight of the branch b of a run
abbrev pub place_at : List (ℕ × ℕ) → ℕ → ℕ
place_at run b = (slice_index_or {A = ℕ × ℕ} run b (0, 0)).0

abbrev pub weight_at : List (ℕ × ℕ) → ℕ → ℕ
weight_at run b = (slice_index_or {A = ℕ × ℕ} run b (0, 0)).1

-- the sum of weight × the value at the place, over the branches of a run
abbrev pub run_sum : List (ℕ × ℕ) → List ℤ → ℤ
run_sum run values = weighted_z (length run) (weight_at run) (λ b. slice_index_or values (place_at run b) (pos 0))
