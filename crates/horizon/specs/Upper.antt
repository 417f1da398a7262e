-- The upper theorem: values of nodes, vectors of components and depths of nodes bound every strategy over every horizon.
use Rattle.std.specs.Prelude.{◌≡◌, ℕ, ◌*◌, ◌^◌, ◌<◌, ◌≤◌, ◌⊎◌, List, ◌∷◌, ℤ, pos, ◌+ℤ◌, ◌*ℤ◌, ◌≤ℤ◌}
use Rattle.table.specs.Table.{Table, successor}
use Rattle.table.specs.Limits.{Lawful}
use Rattle.horizon.specs.Sums.{branch_sum_n, branch_sum_z}
use Rattle.horizon.specs.Strategies.{Strategy, StatesOnly, Names, scaled_reward}
use Rattle.horizon.specs.Potential.{Descends, RewardsBetween, constant}

-- The choice c of s is inside: all its branches stay in the node of s.
pub record InsideChoice (T : Table) (F : ℕ) (node : ℕ → ℕ) (x : ℕ → ℤ) (t : ℕ → ℕ) (s c : ℕ) : Type 0 where
  pub stays : (b : ℕ) → b < T.branches s c → node (successor T s c b) ≡ node s
  -- W × F × reward + Σ weight × t(successor) ≤ W × (x + t(s))
  pub bias : ((pos (T.denominator * F) *ℤ T.reward s c) +ℤ pos (branch_sum_n T s c t)) ≤ℤ (pos T.denominator *ℤ (x (node s) +ℤ pos (t s)))

-- The choice c of s is leaving: one of its branches leads to a node of smaller depth.
pub record LeavingChoice (T : Table) (node depth : ℕ → ℕ) (x : ℕ → ℤ) (s c : ℕ) : Type 0 where
  -- Σ weight × x(node of the successor) ≤ W × x(node of s)
  pub gain : branch_sum_z T s c (λ u. x (node u)) ≤ℤ (pos T.denominator *ℤ x (node s))
  pub descends : Descends T (λ u. depth (node u)) s c

-- What the upper theorem rests on: x and depth belong to the nodes, the vector t to the states.
pub record UpperHypotheses (T : Table) (F D H : ℕ) (low : ℤ) (node depth : ℕ → ℕ) (x : ℕ → ℤ) (t : ℕ → ℕ) : Type 0 where
  -- no depth is above D
  pub depths : (s : ℕ) → s < T.states → depth (node s) ≤ D
  -- no number of the vector is above H
  pub vectors : (s : ℕ) → s < T.states → t s ≤ H
  -- every value is F × low at least
  pub values : (s : ℕ) → s < T.states → (pos F *ℤ low) ≤ℤ x (node s)
  -- every choice is inside or leaving
  pub choices : (s c : ℕ) → s < T.states → c < T.choices s → InsideChoice T F node x t s c ⊎ LeavingChoice T node depth x s c

-- F × V ≤ W^N × (N × x(node of s) + C(D)), for every strategy and every N
abbrev pub UpperTheorem : Type 0
UpperTheorem = (T : Table) (F D H : ℕ) (low high : ℤ) (node depth : ℕ → ℕ) (x : ℕ → ℤ) (t : ℕ → ℕ)
    → Lawful T → RewardsBetween T low high → UpperHypotheses T F D H low node depth x t
    → (σ : Strategy) → Names T σ → (N s : ℕ) (past : List ℕ) → StatesOnly T (s ∷ past)
    → (pos F *ℤ scaled_reward T σ N s past)
    ≤ℤ (pos (T.denominator ^ N) *ℤ ((pos N *ℤ x (node s)) +ℤ pos (constant T.denominator F D H low high)))
