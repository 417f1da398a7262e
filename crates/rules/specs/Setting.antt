-- A table with the two scales of the numbers that are kept of it.
use Rattle.std.specs.Prelude.{ℕ, true, ℤ, pos, ◌*ℤ◌}
use Rattle.table.specs.Table.{Table}
use Rattle.rules.specs.Choosing.{largest, smallest}

pub record Setting : Type 0 where
  pub table : Table
  -- F: a bound is a whole multiple of 1 / F
  pub scale : ℕ
  -- H: no number of a vector is above it
  pub cap : ℕ

-- the scales in use: F = 2^20 and H = 2^46
abbrev pub scale_in_use : ℕ
scale_in_use = 1048576

abbrev pub cap_in_use : ℕ
cap_in_use = 70368744177664

abbrev pub setting_of : Table → Setting
setting_of T = record { table = T; scale = scale_in_use; cap = cap_in_use }

-- rmin and rmax: the least and the largest reward of the table
unfoldable pub least_reward : Table → ℤ
least_reward T = smallest T.states (λ s. true) (λ s. smallest (T.choices s) (λ c. true) (T.reward s))

unfoldable pub largest_reward : Table → ℤ
largest_reward T = largest T.states (λ s. true) (λ s. largest (T.choices s) (λ c. true) (T.reward s))

-- F × rmin and F × rmax, between which all bounds lie
abbrev pub bottom : Setting → ℤ
bottom M = pos M.scale *ℤ least_reward M.table

abbrev pub top : Setting → ℤ
top M = pos M.scale *ℤ largest_reward M.table
