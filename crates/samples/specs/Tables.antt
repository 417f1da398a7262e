-- The three large tables, in numbers: 256 states with 16 choices each, over the denominator 65,536.
-- Choices are numbered through all states: choice c of state s has the number 16 * s + c.
use Rattle.std.specs.Prelude.{◌≡◌, ℕ, ◌+◌, ◌*◌, ◌/◌, ◌%◌, ◌<◌, ◌≤◌, cond, List, [], ◌∷◌, ℤ, pos, ◌-ℤ◌, ◌==◌, nat_lt, slice_index_or}
use Rattle.table.specs.Table.{Table}
use Rattle.model.specs.Copy.{ChoicesCopied, StatesCopied}
use Rattle.sources.specs.declared.list.StateRow.{StateRow}
use Rattle.sources.specs.declared.list.ChoiceRow.{ChoiceRow}
use Rattle.samples.specs.declared.tables.Weights.{Weights}
use Rattle.samples.specs.declared.tables.Weights.TheVariants.{Even, Uneven}

-- the reward of a choice by its number, from -spread to spread
abbrev pub reward_at : ℕ → ℕ → ℤ
reward_at spread n = pos (7919 * n % (2 * spread + 1)) -ℤ pos spread

-- the weights of eight branches, and the one at a place
abbrev pub shares : Weights → List ℕ
shares Even = 8192 ∷ 8192 ∷ 8192 ∷ 8192 ∷ 8192 ∷ 8192 ∷ 8192 ∷ 8192 ∷ []
shares Uneven = 1 ∷ 2047 ∷ 4096 ∷ 6144 ∷ 8192 ∷ 12288 ∷ 16384 ∷ 16384 ∷ []

abbrev pub share : Weights → ℕ → ℕ
share w b = slice_index_or (shares w) b 0

module _ (spread : ℕ) (count : ℕ → ℕ) (branch : ℕ → ℕ → ℕ × ℕ) where
  -- a state that the table lacks has no choices, and a choice that it lacks no branches
  abbrev pub choices_of : ℕ → ℕ
  choices_of s = cond (nat_lt s 256) 16 0

  abbrev pub branches_of : ℕ → ℕ → ℕ
  branches_of s c = cond (nat_lt c (choices_of s)) (count s) 0

  -- each choice of a state s has `count s` branches; `branch` gives a choice's branch by the choice's number
  abbrev pub numbered : Table
  numbered = record {
    states = 256;
    denominator = 65536;
    choices = choices_of;
    reward = λ s c. cond (nat_lt c (choices_of s)) (reward_at spread (16 * s + c)) (pos 0);
    branches = branches_of;
    branch = λ s c b. cond (nat_lt b (branches_of s c)) (branch (16 * s + c) b) (0, 0);
  }

-- the branches of each choice are scattered over all states
abbrev pub scattered : Weights → ℕ → ℕ → ℕ × ℕ
scattered w n b = ((37 * n + 29 * b) % 256, share w b)

abbrev pub largest_table : ℕ → Weights → Table
largest_table spread w = numbered spread (λ s. 8) (scattered w)

-- where branches lead if states were counted on past the end: to the next state, and on from there in equal odd steps
abbrev pub onward : ℕ → ℕ → ℕ
onward n b = n / 16 + 1 + b * (2 * (n % 16) + 1)

-- from the first 240 states around the end of the table, from the last 16 around the end among themselves
abbrev pub leaving : Weights → ℕ → ℕ → ℕ × ℕ
leaving w n b = (cond (nat_lt n 3840) (onward n b % 256) (240 + onward n b % 16), share w b)

abbrev pub exits_table : ℕ → Weights → Table
exits_table spread w = numbered spread (λ s. 8) (leaving w)

-- to the first state and to the next one by halves; from the last state to itself
abbrev pub stepping : ℕ → ℕ → ℕ × ℕ
stepping n b = cond (n / 16 == 255) (255, 65536) (cond (b == 0) 0 (n / 16 + 1), 32768)

abbrev pub chain_table : ℕ → Table
chain_table spread = numbered spread (λ s. cond (s == 255) 1 2) stepping

-- whatever `given` allows at the first k places of a choice is what f has there
abbrev pub Gives : ℕ → (ℕ → ℕ × ℕ → Type 0) → (ℕ → ℕ × ℕ) → Type 0
Gives k given f = (b : ℕ) (r : ℕ × ℕ) → b < k → given b r → r ≡ f b

-- the choices of the states from..to have k branches each, and only what `branch` has may be given for these
pub record Describes (count : ℕ → ℕ) (branch : ℕ → ℕ → ℕ × ℕ) (from to k : ℕ) (given : ℕ → ℕ → ℕ × ℕ → Type 0) : Type 0 where
  pub many : (s : ℕ) → from ≤ s → s < to → count s ≡ k
  pub same : (n : ℕ) → 16 * from ≤ n → n < 16 * to → Gives k (given n) (branch n)

-- the first k choices of a state have been added, of each numbered table that what is given describes
abbrev pub ChoicesAdded : ℕ → ℕ → ℕ → ℕ → (ℕ → ℕ → ℕ × ℕ → Type 0) → List ChoiceRow → List ChoiceRow → List (ℕ × ℕ) → List (ℕ × ℕ) → Type 0
ChoicesAdded spread s k m given old_c new_c old_b new_b =
    (count : ℕ → ℕ) (branch : ℕ → ℕ → ℕ × ℕ) → Describes count branch s (s + 1) m given
    → ChoicesCopied (numbered spread count branch) s k old_c new_c old_b new_b

-- if the lists held the states below `from` of such a table, they hold those below k now
abbrev pub StatesAdded : ℕ → ℕ → ℕ → ℕ → ℕ → (ℕ → ℕ → ℕ × ℕ → Type 0) → List StateRow → List StateRow → List ChoiceRow → List ChoiceRow → List (ℕ × ℕ) → List (ℕ × ℕ) → Type 0
StatesAdded spread from to k m given old_s new_s old_c new_c old_b new_b =
    (count : ℕ → ℕ) (branch : ℕ → ℕ → ℕ × ℕ) → Describes count branch from to m given
    → StatesCopied (numbered spread count branch) from old_s old_c old_b
    → StatesCopied (numbered spread count branch) k new_s new_c new_b
