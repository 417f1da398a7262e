-- Sets of choices as flags, 16 to a state.
use Rattle.std.specs.Prelude.{◌≡◌, ℕ, ◌+◌, ◌*◌, ◌<◌, Bool, true, false, ◌&&◌, List, length, nat_lt, slice_index_or}
use Rattle.table.specs.Table.{Table}
use Rattle.components.specs.EndComponent.{Choices, Choice}

-- the choice c of the state s is in the set
abbrev pub flag_at : List Bool → Choices
flag_at flags s c = slice_index_or flags (16 * s + c) false

-- the flags show the set
abbrev pub Flagged : Table → List Bool → Choices → Type 0
Flagged T flags A = (s c : ℕ) → Choice T s c → flag_at flags s c ≡ A s c

-- each choice is in the set
abbrev pub AllSet : Table → List Bool → Type 0
AllSet T flags = (s c : ℕ) → Choice T s c → flag_at flags s c ≡ true

-- own has the flags of the first k states: each choice of theirs as flags have it, and no other
pub record OwnFlags (T : Table) (k : ℕ) (flags own : List Bool) : Type 0 where
  pub size : length own ≡ 16 * k
  pub at : (s c : ℕ) → s < k → c < 16 → flag_at own s c ≡ (nat_lt c (T.choices s) && flag_at flags s c)
