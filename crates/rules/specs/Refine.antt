-- A refine: steps of relative value iteration within one component, damped by a half so that periodic components settle too.
use Rattle.std.specs.Prelude.{ℕ, zero, suc, Bool, true, false, cond, not, ◌&&◌, ◌||◌, ℤ, pos, ◌+ℤ◌, ◌-ℤ◌, ◌*ℤ◌, int_le, int_lt, nat_le, slice_set, unsigned_abs}
use Rattle.horizon.specs.Means.{Rounding, round_down, round_up, mean}
use Rattle.components.specs.Below.{every, first}
use Rattle.components.specs.Inside.{inside}
use Rattle.components.specs.Nodes.{states_of}
use Rattle.rules.specs.Choosing.{eq_z, largest, smallest, tabulate, at, at_z}
use Rattle.rules.specs.Setting.{Setting}
use Rattle.rules.specs.Book.{Book}

-- F × reward + the mean of t after the choice, rounded to a side
abbrev pub worth : Setting → Rounding → (ℕ → ℕ) → ℕ → ℕ → ℤ
worth M rounds t s c = (pos M.scale *ℤ M.table.reward s c) +ℤ mean rounds M.table s c (λ u. pos (t u))

-- the largest of these over the inside choices of s
unfoldable pub best : Setting → Rounding → (ℕ → ℕ) → ℕ → ℤ
best M rounds t s = largest (M.table.choices s) (inside M.table s) (worth M rounds t s)

-- that minus t(s): up(s) on the upper side, down(s) on the lower side
abbrev pub gain : Setting → Rounding → (ℕ → ℕ) → ℕ → ℤ
gain M rounds t s = best M rounds t s -ℤ pos (t s)

-- the largest up(s) and the least down(s) of the states of component k
unfoldable pub largest_up : Setting → (ℕ → ℕ) → ℕ → ℤ
largest_up M t k = largest M.table.states (states_of M.table k) (gain M round_up t)

unfoldable pub least_down : Setting → (ℕ → ℕ) → ℕ → ℤ
least_down M t k = smallest M.table.states (states_of M.table k) (gain M round_down t)

-- the first inside choice that attains down(s)
unfoldable pub attains : Setting → (ℕ → ℕ) → ℕ → ℕ
attains M t s = first (M.table.choices s) (λ c. inside M.table s c && eq_z (worth M round_down t s c) (best M round_down t s))

-- t(s) + down(s) / 2, rounded down
unfoldable pub halfway : Setting → (ℕ → ℕ) → ℕ → ℤ
halfway M t s = pos (t s) +ℤ round_down (gain M round_down t s) 2

-- the next vector: these, minus the least of them in the component
unfoldable pub shifted : Setting → (ℕ → ℕ) → ℕ → ℕ → ℕ
shifted M t k s = unsigned_abs (halfway M t s -ℤ smallest M.table.states (states_of M.table k) (halfway M t))

-- the step is held: one of the numbers of the next vector is above H
unfoldable pub held : Setting → (ℕ → ℕ) → ℕ → Bool
held M t k = not (every M.table.states (λ s. not (states_of M.table k s) || nat_le (shifted M t k s) M.cap))

-- what a step at component k makes of the vector, of lo and hi, and of the recorded choices
unfoldable pub next_vector : Setting → (ℕ → ℕ) → ℕ → ℕ → ℕ
next_vector M t k s = cond (states_of M.table k s && not (held M t k)) (shifted M t k s) (t s)

unfoldable pub next_hi : Setting → (ℕ → ℕ) → ℕ → ℤ → ℤ
next_hi M t k h = cond (int_lt (largest_up M t k) h) (largest_up M t k) h

unfoldable pub next_lo : Setting → (ℕ → ℕ) → ℕ → ℤ → ℤ
next_lo M t k l = cond (int_lt l (least_down M t k)) (least_down M t k) l

unfoldable pub next_recorded : Setting → (ℕ → ℕ) → ℕ → ℤ → (ℕ → ℕ) → ℕ → ℕ
next_recorded M t k l r s = cond (states_of M.table k s && int_lt l (least_down M t k)) (attains M t s) (r s)

-- one step at component k
unfoldable pub step : Setting → ℕ → Book → Book
step M k B = record {
  vector = tabulate M.table.states (next_vector M (at B.vector) k);
  recorded = tabulate M.table.states (next_recorded M (at B.vector) k (at_z B.lo k) (at B.recorded));
  lo = slice_set B.lo k (next_lo M (at B.vector) k (at_z B.lo k));
  hi = slice_set B.hi k (next_hi M (at B.vector) k (at_z B.hi k));
  x = B.x;
  y = B.y;
  plan = B.plan;
}

-- hi - lo of component k is at most the width
abbrev pub narrow : ℕ → ℕ → Book → Bool
narrow width k B = int_le (at_z B.hi k -ℤ at_z B.lo k) (pos width)

-- what a refine leaves, and how many steps it made
pub record Refined : Type 0 where
  pub book : Book
  pub made : ℕ

-- at most n steps at component k: it ends before a step if hi - lo is at most the width, and after a held step
unfoldable pub refine : Setting → ℕ → ℕ → ℕ → Book → Refined
refine M k zero width B = record { book = B; made = 0 }
refine M k (suc n) width B =
    elim (narrow width k B) [
      | true ↦ record { book = B; made = 0 }
      | false ↦ elim (held M (at B.vector) k) [
        | true ↦ record { book = step M k B; made = 1 }
        | false ↦ (let r = refine M k n width (step M k B) in record { book = r.book; made = suc r.made })
      ]
    ]
