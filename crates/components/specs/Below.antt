-- Tests on the numbers below a count.
use Rattle.std.specs.Prelude.{ℕ, zero, suc, Bool, true, false, cond, ◌&&◌, ◌||◌, [], map, slice_index_or}
use Rattle.std.specs.List.{range_with_len}
use Rattle.table.specs.Sums.{sum_n}

-- each number below n passes
abbrev pub every : ℕ → (ℕ → Bool) → Bool
every zero p = true
every (suc n) p = every n p && p n

-- some number below n passes
abbrev pub any : ℕ → (ℕ → Bool) → Bool
any zero p = false
any (suc n) p = any n p || p n

-- how many numbers below n pass
abbrev pub count : ℕ → (ℕ → Bool) → ℕ
count n p = sum_n n (λ i. cond (p i) 1 0)

-- the first number below n that passes, or n if none does
unfoldable pub first : ℕ → (ℕ → Bool) → ℕ
first zero p = 0
first (suc n) p = cond (p 0) 0 (suc (first n (λ i. p (suc i))))

-- p at each i below n and j below m i, worked out once, and false elsewhere
unfoldable pub grid : ℕ → (ℕ → ℕ) → (ℕ → ℕ → Bool) → ℕ → ℕ → Bool
grid n m p =
    let rows = map (λ i. map (p i) (range_with_len 0 (m i))) (range_with_len 0 n) in
    λ i j. slice_index_or (slice_index_or rows i []) j false
