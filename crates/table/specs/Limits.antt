-- The nine limits of a table, each in plain words, and the lawful tables: those that keep all of them everywhere.
use Rattle.std.specs.Prelude.{◌≡◌, ℕ, ◌<◌, ◌≤◌, pos, neg_ℤ, ◌≤ℤ◌, ◌≢◌}
use Rattle.table.specs.Sums.{sum_n}
use Rattle.table.specs.Table.{Table, successor, weight}

-- there are 1 to 256 states
abbrev pub StatesWithin : Table → Type 0
StatesWithin T = (1 ≤ T.states) × (T.states ≤ 256)

-- W is 1 to 65,536
abbrev pub DenominatorWithin : Table → Type 0
DenominatorWithin T = (1 ≤ T.denominator) × (T.denominator ≤ 65536)

-- the state has 1 to 16 choices
abbrev pub ChoicesWithin : Table → ℕ → Type 0
ChoicesWithin T s = (1 ≤ T.choices s) × (T.choices s ≤ 16)

-- the choice's reward is -1,000,000 to 1,000,000
abbrev pub RewardWithin : Table → ℕ → ℕ → Type 0
RewardWithin T s c = (neg_ℤ (pos 1000000) ≤ℤ T.reward s c) × (T.reward s c ≤ℤ pos 1000000)

-- the choice has 1 to 8 branches
abbrev pub BranchesWithin : Table → ℕ → ℕ → Type 0
BranchesWithin T s c = (1 ≤ T.branches s c) × (T.branches s c ≤ 8)

-- the branch leads to a state of the table
abbrev pub SuccessorWithin : Table → ℕ → ℕ → ℕ → Type 0
SuccessorWithin T s c b = successor T s c b < T.states

-- the branch has weight 1 at least
abbrev pub WeightPresent : Table → ℕ → ℕ → ℕ → Type 0
WeightPresent T s c b = 1 ≤ weight T s c b

-- no earlier branch of the choice has the same successor
abbrev pub SuccessorNew : Table → ℕ → ℕ → ℕ → Type 0
SuccessorNew T s c b = (a : ℕ) → a < b → successor T s c a ≢ successor T s c b

-- the weights of the choice add up to W
abbrev pub WeightsComplete : Table → ℕ → ℕ → Type 0
WeightsComplete T s c = sum_n (T.branches s c) (weight T s c) ≡ T.denominator

pub record Lawful (T : Table) : Type 0 where
  pub states : StatesWithin T
  pub denominator : DenominatorWithin T
  pub choices : (s : ℕ) → s < T.states → ChoicesWithin T s
  pub rewards : (s c : ℕ) → s < T.states → c < T.choices s → RewardWithin T s c
  pub branches : (s c : ℕ) → s < T.states → c < T.choices s → BranchesWithin T s c
  pub successors : (s c b : ℕ) → s < T.states → c < T.choices s → b < T.branches s c → SuccessorWithin T s c b
  pub weights : (s c b : ℕ) → s < T.states → c < T.choices s → b < T.branches s c → WeightPresent T s c b
  pub distinct : (s c b : ℕ) → s < T.states → c < T.choices s → b < T.branches s c → SuccessorNew T s c b
  pub complete : (s c : ℕ) → s < T.states → c < T.choices s → WeightsComplete T s c
