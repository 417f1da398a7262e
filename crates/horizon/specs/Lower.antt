-- The lower theorem: values, vectors and depths of the states under a plan bound that plan over every horizon.
use Rattle.std.specs.Prelude.{◌≡◌, ℕ, ◌*◌, ◌^◌, ◌<◌, ◌≤◌, ◌⊎◌, List, ℤ, pos, ◌+ℤ◌, ◌-ℤ◌, ◌*ℤ◌, ◌≤ℤ◌}
use Rattle.table.specs.Table.{Table, successor}
use Rattle.table.specs.Limits.{Lawful}
use Rattle.horizon.specs.Sums.{branch_sum_n, branch_sum_z}
use Rattle.horizon.specs.Strategies.{Plan, PlanNames, follow, scaled_reward}
use Rattle.horizon.specs.Potential.{Descends, RewardsBetween, constant}

-- The state s is staying: it has depth 0, and the plan leads from it to such states with the same value alone.
pub record StayingState (T : Table) (F : ℕ) (p : Plan) (depth : ℕ → ℕ) (y : ℕ → ℤ) (t : ℕ → ℕ) (s : ℕ) : Type 0 where
  pub here : depth s ≡ 0
  pub stays : (b : ℕ) → b < T.branches s (p s) → depth (successor T s (p s) b) ≡ 0
  pub keeps : (b : ℕ) → b < T.branches s (p s) → y (successor T s (p s) b) ≡ y s
  -- W × (y(s) + t(s)) ≤ W × F × reward + Σ weight × t(successor)
  pub bias : (pos T.denominator *ℤ (y s +ℤ pos (t s))) ≤ℤ ((pos (T.denominator * F) *ℤ T.reward s (p s)) +ℤ pos (branch_sum_n T s (p s) t))

-- The state s is moving: a branch of the choice that the plan names there leads to a smaller depth.
pub record MovingState (T : Table) (p : Plan) (depth : ℕ → ℕ) (y : ℕ → ℤ) (s : ℕ) : Type 0 where
  -- W × y(s) ≤ Σ weight × y(successor)
  pub gain : (pos T.denominator *ℤ y s) ≤ℤ branch_sum_z T s (p s) y
  pub descends : Descends T depth s (p s)

-- What the lower theorem rests on.
pub record LowerHypotheses (T : Table) (F D H : ℕ) (high : ℤ) (p : Plan) (depth : ℕ → ℕ) (y : ℕ → ℤ) (t : ℕ → ℕ) : Type 0 where
  -- no depth is above D
  pub depths : (s : ℕ) → s < T.states → depth s ≤ D
  -- no number of the vector is above H at depth 0
  pub vectors : (s : ℕ) → s < T.states → depth s ≡ 0 → t s ≤ H
  -- no value is above F × high
  pub values : (s : ℕ) → s < T.states → y s ≤ℤ (pos F *ℤ high)
  -- every state is staying or moving
  pub states : (s : ℕ) → s < T.states → StayingState T F p depth y t s ⊎ MovingState T p depth y s

-- W^N × (N × y(s) - C(D)) ≤ F × V of the plan, for every N
abbrev pub LowerTheorem : Type 0
LowerTheorem = (T : Table) (F D H : ℕ) (low high : ℤ) (p : Plan) (depth : ℕ → ℕ) (y : ℕ → ℤ) (t : ℕ → ℕ)
    → Lawful T → RewardsBetween T low high → PlanNames T p → LowerHypotheses T F D H high p depth y t
    → (N s : ℕ) (past : List ℕ) → s < T.states
    → (pos (T.denominator ^ N) *ℤ ((pos N *ℤ y s) -ℤ pos (constant T.denominator F D H low high)))
    ≤ℤ (pos F *ℤ scaled_reward T (follow p) N s past)
