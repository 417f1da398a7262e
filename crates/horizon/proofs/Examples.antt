-- The worked example: the limits, the strategy, the numbers and the two certificates, by computation
use Rattle.std.proofs.Common.{ℕ, zero, suc, ◌*◌, ◌<◌, [], ◌∷◌, pos, ◌+ℤ◌, ◌*ℤ◌, ◌≤ℤ◌, refl, arith}
use lib.Signed.{le_z_yes}
use Rattle.table.specs.Limits.{ChoicesWithin, RewardWithin, BranchesWithin, SuccessorWithin, WeightPresent, SuccessorNew, WeightsComplete, Lawful}
use Rattle.horizon.specs.Sums.{branch_sum_n, branch_sum_z}
use Rattle.horizon.specs.Strategies.{Names}
use Rattle.horizon.specs.Certificates.{UpperCertificate, LowerCertificate}
use Rattle.horizon.specs.Means.{round_down, round_up}
use Rattle.horizon.specs.Example.{choices_at, reward_at, branches_at, example, lookback, example_plan, upper_bias, lower_bias, WorkedExample}

choices : (s : ℕ) → s < 2 → ChoicesWithin example s
choices zero h = (omega arith, omega arith)
choices (suc s) h = (omega arith, omega arith)

rewards : (s c : ℕ) → s < 2 → c < choices_at s → RewardWithin example s c
rewards zero zero h k = (le_z_yes tt, le_z_yes tt)
rewards zero (suc c) h k = (le_z_yes tt, le_z_yes tt)
rewards (suc s) c h k = (le_z_yes tt, le_z_yes tt)

branches : (s c : ℕ) → s < 2 → c < choices_at s → BranchesWithin example s c
branches zero zero h k = (omega arith, omega arith)
branches zero (suc c) h k = (omega arith, omega arith)
branches (suc s) c h k = (omega arith, omega arith)

successors : (s c b : ℕ) → s < 2 → c < choices_at s → b < branches_at s c → SuccessorWithin example s c b
successors zero zero b h k l = l
successors zero (suc c) b h k l = omega arith
successors (suc s) c b h k l = omega arith

weights : (s c b : ℕ) → s < 2 → c < choices_at s → b < branches_at s c → WeightPresent example s c b
weights zero zero b h k l = omega arith
weights zero (suc c) b h k l = omega arith
weights (suc s) c b h k l = omega arith

distinct : (s c b : ℕ) → s < 2 → c < choices_at s → b < branches_at s c → SuccessorNew example s c b
distinct zero zero b h k l a m e = omega arith
distinct zero (suc c) b h k l a m e = omega arith
distinct (suc s) c b h k l a m e = omega arith

complete : (s c : ℕ) → s < 2 → c < choices_at s → WeightsComplete example s c
complete zero zero h k = refl
complete zero (suc c) h k = refl
complete (suc s) c h k = refl

lawful : Lawful example
lawful = record {
  states = (omega arith, omega arith);
  denominator = (omega arith, omega arith);
  choices = choices;
  rewards = rewards;
  branches = branches;
  successors = successors;
  weights = weights;
  distinct = distinct;
  complete = complete;
}

names : Names example lookback
names zero [] h = omega arith
names zero (zero ∷ past) h = omega arith
names zero (suc u ∷ past) h = omega arith
names (suc s) past h = omega arith

upper : UpperCertificate example 1 (λ s. pos 2) upper_bias
upper = record { gain = gain; bias = bias }
  where
    gain : (s c : ℕ) → s < 2 → c < choices_at s → branch_sum_z example s c (λ u. pos 2) ≤ℤ pos 4
    gain zero zero h k = le_z_yes tt
    gain zero (suc c) h k = le_z_yes tt
    gain (suc s) c h k = le_z_yes tt

    bias : (s c : ℕ) → s < 2 → c < choices_at s
        → ((pos 2 *ℤ reward_at s c) +ℤ pos (branch_sum_n example s c upper_bias)) ≤ℤ (pos 2 *ℤ (pos 2 +ℤ pos (upper_bias s)))
    bias zero zero h k = le_z_yes tt
    bias zero (suc c) h k = le_z_yes tt
    bias (suc s) c h k = le_z_yes tt

lower : LowerCertificate example 1 example_plan (λ s. pos 2) lower_bias
lower = record { gain = gain; bias = bias }
  where
    gain : (s : ℕ) → s < 2 → pos 4 ≤ℤ branch_sum_z example s (example_plan s) (λ u. pos 2)
    gain zero h = le_z_yes tt
    gain (suc s) h = le_z_yes tt

    bias : (s : ℕ) → s < 2
        → (pos 4 +ℤ pos (branch_sum_n example s (example_plan s) lower_bias)) ≤ℤ ((pos 2 *ℤ reward_at s (example_plan s)) +ℤ pos (2 * lower_bias s))
    bias zero h = le_z_yes tt
    bias (suc s) h = le_z_yes tt

pub worked_example : WorkedExample
unfolding round_down round_up
worked_example = record { lawful = lawful; names = names; over0 = refl; over1 = refl; over2 = refl; upper = upper; lower = lower; means = (refl, refl); negated = (refl, refl) }
