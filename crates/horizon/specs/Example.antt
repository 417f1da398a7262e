-- The scaled reward, two certificates and rounded means worked by hand, on two states and a strategy that looks at the past.
-- W is 2. State 0: choice 0 has reward 1 and branches 0:1, 1:1; choice 1 has reward 5 and the branch 1:2.
-- State 1: its one choice has reward -1 and the branch 0:2. (Branches are written successor:weight.)
use Rattle.std.specs.Prelude.{◌≡◌, ℕ, zero, suc, [], ◌∷◌, ℤ, pos, neg_ℤ}
use Rattle.table.specs.Table.{Table}
use Rattle.table.specs.Limits.{Lawful}
use Rattle.horizon.specs.Strategies.{Strategy, Names, Plan, scaled_reward}
use Rattle.horizon.specs.Certificates.{UpperCertificate, LowerCertificate}
use Rattle.horizon.specs.Means.{round_down, round_up, mean}

abbrev pub choices_at : ℕ → ℕ
choices_at zero = 2
choices_at (suc s) = 1

abbrev pub reward_at : ℕ → ℕ → ℤ
reward_at zero zero = pos 1
reward_at zero (suc c) = pos 5
reward_at (suc s) c = neg_ℤ (pos 1)

abbrev pub branches_at : ℕ → ℕ → ℕ
branches_at zero zero = 2
branches_at zero (suc c) = 1
branches_at (suc s) c = 1

abbrev pub branch_at : ℕ → ℕ → ℕ → ℕ × ℕ
branch_at zero zero b = (b, 1)
branch_at zero (suc c) b = (1, 2)
branch_at (suc s) c b = (0, 2)

abbrev pub example : Table
example = record { states = 2; denominator = 2; choices = choices_at; reward = reward_at; branches = branches_at; branch = branch_at }

-- choice 1 at state 0 exactly if the state before was 0 too; else choice 0
abbrev pub lookback : Strategy
lookback [] = 0
lookback (zero ∷ []) = 0
lookback (zero ∷ (zero ∷ past)) = 1
lookback (zero ∷ (suc u ∷ past)) = 0
lookback (suc s ∷ past) = 0

-- choice 1 at state 0, and the one choice at state 1: from state 0 it earns 5 and -1 in turn, 2 a step
abbrev pub example_plan : Plan
example_plan zero = 1
example_plan (suc s) = 0

-- the biases of two certificates with scale 1 and gain 2 at both states
abbrev pub upper_bias : ℕ → ℕ
upper_bias zero = 3
upper_bias (suc s) = 0

abbrev pub lower_bias : ℕ → ℕ
lower_bias zero = 0
lower_bias (suc s) = 3

-- numbers of the two states, and the same negated
abbrev pub number_at : ℕ → ℤ
number_at zero = pos 1
number_at (suc s) = pos 2

abbrev pub negated_at : ℕ → ℤ
negated_at s = neg_ℤ (number_at s)

-- V over N steps from state 0
abbrev pub example_reward : ℕ → ℤ
example_reward N = scaled_reward example lookback N 0 []

-- Over 0 steps: 0.
-- Over 1 step, the list (0): choice 0, 2 × 1 = 2.
-- Over 2 steps, the list (0): choice 0, 4 × 1 = 4; then with weight 1 the list (0, 0): choice 1, 2 × 5 = 10;
-- and with weight 1 the list (0, 1): choice 0, 2 × (-1) = -2. Together 4 + 10 - 2 = 12, so 12 / 2² = 3 in the mean.
-- Upper certificate: 2 × 1 + (3 + 0) ≤ 2 × (2 + 3) and 2 × 5 + 2 × 0 ≤ 2 × (2 + 3) at state 0, 2 × (-1) + 2 × 3 ≤ 2 × (2 + 0) at state 1.
-- Lower certificate: 2 × 2 + 2 × 3 ≤ 2 × 5 + 2 × 0 at state 0, 2 × 2 + 2 × 0 ≤ 2 × (-1) + 2 × 3 at state 1.
pub record WorkedExample : Type 0 where
  pub lawful : Lawful example
  pub names : Names example lookback
  pub over0 : example_reward 0 ≡ pos 0
  pub over1 : example_reward 1 ≡ pos 2
  pub over2 : example_reward 2 ≡ pos 12
  pub upper : UpperCertificate example 1 (λ s. pos 2) upper_bias
  pub lower : LowerCertificate example 1 example_plan (λ s. pos 2) lower_bias
  -- the mean of 1 and 2 after choice 0 of state 0 is 3 / 2, from 1 to 2; that of -1 and -2 is -3 / 2, from -2 to -1
  pub means : (mean round_down example 0 0 number_at ≡ pos 1) × (mean round_up example 0 0 number_at ≡ pos 2)
  pub negated : (mean round_down example 0 0 negated_at ≡ neg_ℤ (pos 2)) × (mean round_up example 0 0 negated_at ≡ neg_ℤ (pos 1))
