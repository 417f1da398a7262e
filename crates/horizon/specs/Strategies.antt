-- Strategies, memoryless plans, and the scaled reward of a strategy over a number of steps.
use Rattle.std.specs.Prelude.{ℕ, zero, suc, ◌^◌, ◌<◌, List, [], ◌∷◌, ℤ, pos, ◌+ℤ◌, ◌*ℤ◌}
use Rattle.table.specs.Table.{Table}
use Rattle.horizon.specs.Sums.{branch_sum_z}

-- A strategy names one choice, with no lots drawn, for every list of states up to the present one.
-- The list is held newest first: in s ∷ past, s is the present state and past are the states before it.
-- A history that starts at s starts with the list s ∷ [], of s alone.
abbrev pub Strategy : Type 0
Strategy = List ℕ → ℕ

-- every number of the list is a state of the table
abbrev pub StatesOnly : Table → List ℕ → Type 0
StatesOnly T [] = Unit {0}
StatesOnly T (s ∷ past) = (s < T.states) × StatesOnly T past

-- the strategy names an existing choice of the present state for every list of states up to it
abbrev pub Names : Table → Strategy → Type 0
Names T σ = (s : ℕ) (past : List ℕ) → StatesOnly T (s ∷ past) → σ (s ∷ past) < T.choices s

-- A memoryless plan gives a choice for each state.
abbrev pub Plan : Type 0
Plan = ℕ → ℕ

-- the plan names an existing choice of every state
abbrev pub PlanNames : Table → Plan → Type 0
PlanNames T p = (s : ℕ) → s < T.states → p s < T.choices s

-- the strategy that plays the plan: it looks at the present state alone
abbrev pub follow : Plan → Strategy
follow p [] = 0
follow p (s ∷ past) = p s

-- V: the expected reward of the strategy over N steps from s, after the states past, times W^N.
-- Over 0 steps it is 0. Over N steps it is W^N × the reward of the choice
-- + the sum over its branches of weight × V over N - 1 steps, with the successor added to the list.
abbrev pub scaled_reward : Table → Strategy → ℕ → ℕ → List ℕ → ℤ
scaled_reward T σ zero s past = pos 0
scaled_reward T σ (suc N) s past =
    (pos (T.denominator ^ suc N) *ℤ T.reward s (σ (s ∷ past)))
    +ℤ branch_sum_z T s (σ (s ∷ past)) (λ u. scaled_reward T σ N u (s ∷ past))
