-- The walk over the limits of a table, in order, and the first limit on it that is broken.
use Rattle.std.specs.Prelude.{ℕ, zero, suc, cond, List, [], ◌∷◌, ◌++◌, Some, None, Option}
use Rattle.table.specs.Table.{Table}
use Rattle.table.specs.Faults.{kept}
use Rattle.table.specs.declared.fault.Fault.{Fault}
use Rattle.table.specs.declared.fault.Fault.TheVariants.{States, Denominator, Choices, Reward, Branches, Successor, Weight, Repeated, Sum}

-- the lists f 0, f 1, …, f (k - 1), one after the other
abbrev pub each : ℕ → (ℕ → List Fault) → List Fault
each zero f = []
each (suc k) f = each k f ++ f k

-- at a branch: its successor, its weight, and that the successor is new
abbrev pub branch_walk : ℕ → ℕ → ℕ → List Fault
branch_walk s c b = Successor s c b ∷ Weight s c b ∷ Repeated s c b ∷ []

-- at a choice, before its branches: the reward and how many branches there are
abbrev pub head_walk : ℕ → ℕ → List Fault
head_walk s c = Reward s c ∷ Branches s c ∷ []

-- at a choice: that, each branch in turn, and last the sum of the weights
abbrev pub choice_walk : Table → ℕ → ℕ → List Fault
choice_walk T s c = head_walk s c ++ (each (T.branches s c) (branch_walk s c) ++ (Sum s c ∷ []))

-- at a state: how many choices there are, then each choice in turn
abbrev pub state_walk : Table → ℕ → List Fault
state_walk T s = Choices s ∷ each (T.choices s) (choice_walk T s)

-- the whole walk: the number of states, the denominator, then each state in turn
abbrev pub walk : Table → List Fault
walk T = States ∷ Denominator ∷ each T.states (state_walk T)

-- the first of these faults whose limit is broken
abbrev pub first_broken : Table → List Fault → Option Fault
first_broken T [] = None
first_broken T (e ∷ es) = cond (kept T e) (first_broken T es) (Some e)

-- what decides about a table: the first broken limit on its walk
abbrev pub fault_of : Table → Option Fault
fault_of T = first_broken T (walk T)
