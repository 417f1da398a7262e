-- Weighted sums, and the weighted sum over the branches of a choice.
use Rattle.std.specs.Prelude.{ℕ, zero, suc, ◌*◌, ℤ, pos, ◌+ℤ◌, ◌*ℤ◌}
use Rattle.table.specs.Sums.{sum_n}
use Rattle.table.specs.Table.{Table, successor, weight}

-- f 0 + f 1 + … + f (k - 1), over the integers
abbrev pub sum_z : ℕ → (ℕ → ℤ) → ℤ
sum_z zero f = pos 0
sum_z (suc k) f = sum_z k f +ℤ f k

-- w 0 × f 0 + w 1 × f 1 + … + w (k - 1) × f (k - 1)
abbrev pub weighted_n : ℕ → (ℕ → ℕ) → (ℕ → ℕ) → ℕ
weighted_n k w f = sum_n k (λ b. w b * f b)

-- the same over the integers
abbrev pub weighted_z : ℕ → (ℕ → ℕ) → (ℕ → ℤ) → ℤ
weighted_z k w f = sum_z k (λ b. pos (w b) *ℤ f b)

-- the sum of weight × f(successor) over the branches of the choice c of s: W times the mean of f after the choice
abbrev pub branch_sum_n : Table → ℕ → ℕ → (ℕ → ℕ) → ℕ
branch_sum_n T s c f = weighted_n (T.branches s c) (weight T s c) (λ b. f (successor T s c b))

-- the same over the integers
abbrev pub branch_sum_z : Table → ℕ → ℕ → (ℕ → ℤ) → ℤ
branch_sum_z T s c f = weighted_z (T.branches s c) (weight T s c) (λ b. f (successor T s c b))
