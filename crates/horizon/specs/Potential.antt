-- The potential of a depth, and the constant C of the two bounds.
-- Every state or node has a depth from 0 to D; a choice descends if one of its branches leads to a smaller depth.
use Rattle.std.specs.Prelude.{◌≡◌, ℕ, zero, suc, ◌+◌, ◌-◌, ◌*◌, ◌^◌, ◌<◌, ◌≤◌, ℤ, ◌-ℤ◌, ◌≤ℤ◌, unsigned_abs}
use Rattle.table.specs.Table.{Table, successor}
use Rattle.table.specs.Limits.{Lawful}
use Rattle.horizon.specs.Sums.{branch_sum_n}

-- W + W² + … + W^j
abbrev pub powers : ℕ → ℕ → ℕ
powers W zero = 0
powers W (suc j) = powers W j + W ^ suc j

-- the potential of the depth k, at most D: the last k terms of W + W² + … + W^D
abbrev pub potential : ℕ → ℕ → ℕ → ℕ
potential W D k = powers W D - powers W (D - k)

-- a branch of the choice c of s leads to a smaller depth
abbrev pub Descends : Table → (ℕ → ℕ) → ℕ → ℕ → Type 0
Descends T depth s c = (b : ℕ) × (b < T.branches s c) × (depth (successor T s c b) < depth s)

-- every reward of the table is between low and high; the least and the largest reward are such numbers
abbrev pub RewardsBetween : Table → ℤ → ℤ → Type 0
RewardsBetween T low high = (s c : ℕ) → s < T.states → c < T.choices s → (low ≤ℤ T.reward s c) × (T.reward s c ≤ℤ high)

-- F × |high - low| + H: what one step that descends can cost; with rewards between low and high it is F × (high - low) + H
abbrev pub step_cost : ℕ → ℕ → ℤ → ℤ → ℕ
step_cost F H low high = F * unsigned_abs (high -ℤ low) + H

-- C(D) = H + (F × |high - low| + H) × (W + W² + … + W^D)
abbrev pub constant : ℕ → ℕ → ℕ → ℕ → ℤ → ℤ → ℕ
constant W F D H low high = H + step_cost F H low high * powers W D

-- What the potential and the constant keep.
pub record PotentialLaws : Type 0 where
  -- 0 at depth 0, and W + W² + … + W^D at the top
  pub bottom : (W D : ℕ) → potential W D 0 ≡ 0
  pub top : (W D : ℕ) → potential W D D ≡ powers W D
  -- the gap to the top is powers W (D - k): one depth below, W × (that + 1)
  pub gap : (W D k : ℕ) → potential W D k + powers W (D - k) ≡ powers W D
  pub gaps : (W D k : ℕ) → k < D → powers W (D - k) ≡ W * (powers W (D - suc k) + 1)
  -- a larger depth has no smaller potential
  pub rises : (W D j k : ℕ) → j ≤ k → potential W D j ≤ potential W D k
  -- a choice that descends lowers the mean of the potential by one at least
  pub falls : (T : Table) → Lawful T → (D : ℕ) (depth : ℕ → ℕ) → ((s : ℕ) → s < T.states → depth s ≤ D)
      → (s c : ℕ) → s < T.states → c < T.choices s → Descends T depth s c
      → branch_sum_n T s c (λ u. potential T.denominator D (depth u)) + T.denominator ≤ T.denominator * potential T.denominator D (depth s)
  -- the constant grows with D
  pub grows : (W F D E H : ℕ) (low high : ℤ) → D ≤ E → constant W F D H low high ≤ constant W F E H low high
