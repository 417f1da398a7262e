-- Certificates: numbers for each state that bound the scaled reward over every horizon.
-- In both, F is the scale; g(s) stands for the gain of a state (reward per step, times F), d(s) for its bias, and is never negative.
use Rattle.std.specs.Prelude.{ℕ, ◌*◌, ◌^◌, ◌<◌, List, ◌∷◌, ℤ, pos, ◌+ℤ◌, ◌-ℤ◌, ◌*ℤ◌, ◌≤ℤ◌}
use Rattle.table.specs.Table.{Table}
use Rattle.table.specs.Limits.{Lawful}
use Rattle.horizon.specs.Sums.{branch_sum_n, branch_sum_z}
use Rattle.horizon.specs.Strategies.{Strategy, StatesOnly, Names, Plan, PlanNames, follow, scaled_reward}

-- An upper certificate, for every choice of every state s.
pub record UpperCertificate (T : Table) (F : ℕ) (g : ℕ → ℤ) (d : ℕ → ℕ) : Type 0 where
  -- Σ weight × g(successor) ≤ W × g(s)
  pub gain : (s c : ℕ) → s < T.states → c < T.choices s → branch_sum_z T s c g ≤ℤ (pos T.denominator *ℤ g s)
  -- W × F × reward + Σ weight × d(successor) ≤ W × (g(s) + d(s))
  pub bias : (s c : ℕ) → s < T.states → c < T.choices s
      → ((pos (T.denominator * F) *ℤ T.reward s c) +ℤ pos (branch_sum_n T s c d)) ≤ℤ (pos T.denominator *ℤ (g s +ℤ pos (d s)))

-- Its mirror for a plan p, for the choice that p names at every state s.
pub record LowerCertificate (T : Table) (F : ℕ) (p : Plan) (g : ℕ → ℤ) (d : ℕ → ℕ) : Type 0 where
  -- W × g(s) ≤ Σ weight × g(successor)
  pub gain : (s : ℕ) → s < T.states → (pos T.denominator *ℤ g s) ≤ℤ branch_sum_z T s (p s) g
  -- W × g(s) + Σ weight × d(successor) ≤ W × F × reward + W × d(s)
  pub bias : (s : ℕ) → s < T.states
      → ((pos T.denominator *ℤ g s) +ℤ pos (branch_sum_n T s (p s) d))
      ≤ℤ ((pos (T.denominator * F) *ℤ T.reward s (p s)) +ℤ pos (T.denominator * d s))

-- An upper certificate bounds every strategy over every horizon: F × V ≤ W^N × (N × g(s) + d(s)).
abbrev pub UpperCertificateBounds : Type 0
UpperCertificateBounds = (T : Table) (F : ℕ) (g : ℕ → ℤ) (d : ℕ → ℕ) → Lawful T → UpperCertificate T F g d
    → (σ : Strategy) → Names T σ → (N s : ℕ) (past : List ℕ) → StatesOnly T (s ∷ past)
    → (pos F *ℤ scaled_reward T σ N s past) ≤ℤ (pos (T.denominator ^ N) *ℤ ((pos N *ℤ g s) +ℤ pos (d s)))

-- A lower certificate bounds its plan over every horizon: W^N × (N × g(s) - d(s)) ≤ F × V.
abbrev pub LowerCertificateBounds : Type 0
LowerCertificateBounds = (T : Table) (F : ℕ) (p : Plan) (g : ℕ → ℤ) (d : ℕ → ℕ) → Lawful T → PlanNames T p → LowerCertificate T F p g d
    → (N s : ℕ) (past : List ℕ) → s < T.states
    → (pos (T.denominator ^ N) *ℤ ((pos N *ℤ g s) -ℤ pos (d s))) ≤ℤ (pos F *ℤ scaled_reward T (follow p) N s past)
