-- The largest and the least of f at the numbers below n that pass; lists by their places.
use Rattle.std.specs.Prelude.{ℕ, zero, suc, Bool, cond, ◌&&◌, List, map, ℤ, pos, neg_ℤ, int_le, int_lt, slice_index, slice_index_or}
use Rattle.std.specs.List.{range_with_len}
use Rattle.components.specs.Below.{first}

-- two numbers are equal
abbrev pub eq_z : ℤ → ℤ → Bool
eq_z a b = int_le a b && int_le b a

-- the largest of z and of f at the numbers below n that pass
abbrev pub largest_from : ℤ → ℕ → (ℕ → Bool) → (ℕ → ℤ) → ℤ
largest_from z zero p f = z
largest_from z (suc n) p f = let m = largest_from z n p f in cond (p n && int_lt m (f n)) (f n) m

-- the largest of f at the numbers below n that pass, of which there is one at least
unfoldable pub largest : ℕ → (ℕ → Bool) → (ℕ → ℤ) → ℤ
largest n p f = largest_from (f (first n p)) n p f

-- the least of them
unfoldable pub smallest : ℕ → (ℕ → Bool) → (ℕ → ℤ) → ℤ
smallest n p f = neg_ℤ (largest n p (λ i. neg_ℤ (f i)))

-- the list f 0, f 1, …, f (n - 1)
abbrev pub tabulate : {X : Type 0} → ℕ → (ℕ → X) → List X
tabulate n f = map f (range_with_len 0 n)

-- what a list holds at a place, and 0 outside
abbrev pub at : List ℕ → ℕ → ℕ
at xs i = slice_index xs i

abbrev pub at_z : List ℤ → ℕ → ℤ
at_z xs i = slice_index_or xs i (pos 0)
