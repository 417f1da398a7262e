-- The mean of a choice, exact and rounded to one of its two sides.
use Rattle.std.specs.Prelude.{◌≡◌, ℕ, zero, suc, ◌/◌, ◌<◌, ℤ, pos, negsuc, ◌+ℤ◌, ◌*ℤ◌, neg_ℤ, ◌≤ℤ◌, ◌<ℤ◌}
use Rattle.table.specs.Table.{Table, successor}
use Rattle.table.specs.Limits.{Lawful}
use Rattle.horizon.specs.Sums.{branch_sum_z}

-- A rounding takes an integer z and a denominator W to a whole number near z / W. Where W is 0 both give 0.
abbrev pub Rounding : Type 0
Rounding = ℤ → ℕ → ℤ

-- toward minus infinity
unfoldable pub round_down : Rounding
round_down z zero = pos 0
round_down (pos a) (suc k) = pos (a / suc k)
round_down (negsuc a) (suc k) = negsuc (a / suc k)

-- up
unfoldable pub round_up : Rounding
round_up z W = neg_ℤ (round_down (neg_ℤ z) W)

-- the rounded mean of f after the choice c of s: the sum of weight × f(successor), divided by W
abbrev pub mean : Rounding → Table → ℕ → ℕ → (ℕ → ℤ) → ℤ
mean rounds T s c f = rounds (branch_sum_z T s c f) T.denominator

-- A statement of every choice of every lawful table.
abbrev pub EachChoice : (Table → ℕ → ℕ → Type 0) → Type 0
EachChoice P = (T : Table) → Lawful T → (s c : ℕ) → s < T.states → c < T.choices s → P T s c

-- W × the mean lies on the given side of the exact weighted sum
abbrev pub OnSide : (ℤ → ℤ → Type 0) → Rounding → Type 0
OnSide side rounds = EachChoice (λ T s c. (f : ℕ → ℤ) → side (branch_sum_z T s c f) (pos T.denominator *ℤ mean rounds T s c f))

-- equal numbers give that number
abbrev pub KeepsEqual : Rounding → Type 0
KeepsEqual rounds = EachChoice (λ T s c. (f : ℕ → ℤ) (z : ℤ)
    → ((b : ℕ) → b < T.branches s c → f (successor T s c b) ≡ z) → mean rounds T s c f ≡ z)

-- a larger number never gives a smaller mean
abbrev pub Monotone : Rounding → Type 0
Monotone rounds = EachChoice (λ T s c. (f g : ℕ → ℤ)
    → ((b : ℕ) → b < T.branches s c → f (successor T s c b) ≤ℤ g (successor T s c b)) → mean rounds T s c f ≤ℤ mean rounds T s c g)

-- the mean is less than one off: W × it differs from the exact weighted sum by less than W
abbrev pub Near : Rounding → Type 0
Near rounds = EachChoice (λ T s c. (f : ℕ → ℤ)
    → (branch_sum_z T s c f <ℤ ((pos T.denominator *ℤ mean rounds T s c f) +ℤ pos T.denominator))
    × ((pos T.denominator *ℤ mean rounds T s c f) <ℤ (branch_sum_z T s c f +ℤ pos T.denominator)))

-- a number between -B and B is rounded to one between them, whatever the denominator
abbrev pub Within : Rounding → Type 0
Within rounds = (z : ℤ) (W B : ℕ) → neg_ℤ (pos B) ≤ℤ z → z ≤ℤ pos B → (neg_ℤ (pos B) ≤ℤ rounds z W) × (rounds z W ≤ℤ pos B)
