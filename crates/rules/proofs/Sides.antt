-- What both sides of a mean keep, and the rewards of a table between its least and its largest.
use Rattle.std.proofs.Common.{◌≡◌, ℕ, ◌<◌, true, pos, ◌*ℤ◌, ◌≤ℤ◌, refl, ◌∙◌, arith}
use Rattle.table.specs.Table.{Table}
use Rattle.table.specs.Limits.{Lawful}
use Rattle.horizon.specs.Means.{Rounding, round_down, round_up, KeepsEqual, Monotone}
use Rattle.horizon.specs.Potential.{RewardsBetween}
use Rattle.horizon.specs.Ring.{lin, mono}
use Rattle.horizon.specs.MeansLemmas.{keeps_equal, monotone}
use Rattle.horizon.specs.Rounding.{down_exact, down_mono, up_exact, up_mono}
use Rattle.rules.specs.Choosing.{largest, smallest}
use Rattle.rules.specs.Setting.{Setting, least_reward, largest_reward, bottom, top}
use Rattle.rules.proofs.Choosing.{largest_bound, largest_reached, smallest_bound, smallest_reached}

-- equal numbers give that number, and a larger number gives no smaller mean
pub record Side (rounds : Rounding) : Type 0 where
  pub equal : KeepsEqual rounds
  pub larger : Monotone rounds

pub lower_side : Side round_down
lower_side = record { equal = keeps_equal round_down down_exact; larger = monotone round_down down_mono }

pub upper_side : Side round_up
upper_side = record { equal = keeps_equal round_up up_exact; larger = monotone round_up up_mono }

-- each reward lies between the two
pub rewards_between : (T : Table) → RewardsBetween T (least_reward T) (largest_reward T)
unfolding least_reward largest_reward
rewards_between T s c h k =
    let a = smallest_bound T.states (λ s. true) (λ s. smallest (T.choices s) (λ c. true) (T.reward s)) s h refl in
    let b = smallest_bound (T.choices s) (λ c. true) (T.reward s) c k refl in
    let p = largest_bound T.states (λ s. true) (λ s. largest (T.choices s) (λ c. true) (T.reward s)) s h refl in
    let q = largest_bound (T.choices s) (λ c. true) (T.reward s) c k refl in
    (omega (arith, lin), omega (arith, lin))

-- each of the two is the reward of a choice
module _ (T : Table) (law : Lawful T) where
  pub least_attained : (s : ℕ) × (c : ℕ) × (s < T.states) × (c < T.choices s) × (least_reward T ≡ T.reward s c)
  unfolding least_reward
  least_attained =
      let x = smallest_reached T.states (λ s. true) (λ s. smallest (T.choices s) (λ c. true) (T.reward s)) 0 law.states.0 refl in
      let y = smallest_reached (T.choices x.0) (λ c. true) (T.reward x.0) 0 (law.choices x.0 x.1).0 refl in
      (x.0, y.0, x.1, y.1, x.3 ∙ y.3)

  pub largest_attained : (s : ℕ) × (c : ℕ) × (s < T.states) × (c < T.choices s) × (largest_reward T ≡ T.reward s c)
  unfolding largest_reward
  largest_attained =
      let x = largest_reached T.states (λ s. true) (λ s. largest (T.choices s) (λ c. true) (T.reward s)) 0 law.states.0 refl in
      let y = largest_reached (T.choices x.0) (λ c. true) (T.reward x.0) 0 (law.choices x.0 x.1).0 refl in
      (x.0, y.0, x.1, y.1, x.3 ∙ y.3)

-- F × a reward lies between bottom and top, and bottom is not above top
module _ (M : Setting) where
  pub over_bottom : (s c : ℕ) → s < M.table.states → c < M.table.choices s → bottom M ≤ℤ (pos M.scale *ℤ M.table.reward s c)
  over_bottom s c h k = mono M.scale (least_reward M.table) (M.table.reward s c) (rewards_between M.table s c h k).0

  pub under_top : (s c : ℕ) → s < M.table.states → c < M.table.choices s → (pos M.scale *ℤ M.table.reward s c) ≤ℤ top M
  under_top s c h k = mono M.scale (M.table.reward s c) (largest_reward M.table) (rewards_between M.table s c h k).1

  pub bottom_top : Lawful M.table → bottom M ≤ℤ top M
  bottom_top law =
      let a = over_bottom 0 0 law.states.0 (law.choices 0 law.states.0).0 in
      let b = under_top 0 0 law.states.0 (law.choices 0 law.states.0).0 in
      omega (arith, lin)
