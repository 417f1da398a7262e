-- The table that three lists stand for, a caller's or those of an `OwnedList`.
use Rattle.std.specs.Prelude.{ℕ, ◌+◌, min, cond, List, length, pos, nat_le, nat_lt, slice_index_or, vec_items}
use Rattle.table.specs.Table.{Table}
use Rattle.sources.specs.declared.list.StateRow.{StateRow}
use Rattle.sources.specs.declared.list.ChoiceRow.{ChoiceRow}
use Rattle.sources.specs.declared.owned.OwnedList.{OwnedList}

-- how many places a run of `count` places from `first` on has in a list: none where it passes the list's end
abbrev pub run : ℕ → ℕ → ℕ → ℕ
run first count size = cond (nat_le (first + count) size) count 0

-- what stands past the end of a list
abbrev pub no_state : StateRow
no_state = record { first = 0; count = 0 }

abbrev pub no_choice : ChoiceRow
no_choice = record { reward = pos 0; first = 0; count = 0 }

module _ (states : List StateRow) (choices : List ChoiceRow) (branches : List (ℕ × ℕ)) where
  -- a list of more than 256 states counts as 257 of them
  abbrev pub state_count : ℕ
  state_count = min (length states) 257

  -- the row of a state
  abbrev pub state_at : ℕ → StateRow
  state_at s = cond (nat_lt s state_count) (slice_index_or states s no_state) no_state

  -- how many choices a state has
  abbrev pub choice_count : ℕ → ℕ
  choice_count s = run (state_at s).first (state_at s).count (length choices)

  -- the row of a choice of a state
  abbrev pub choice_at : ℕ → ℕ → ChoiceRow
  choice_at s c = cond (nat_lt c (choice_count s)) (slice_index_or choices ((state_at s).first + c) no_choice) no_choice

  -- how many branches it has
  abbrev pub branch_count : ℕ → ℕ → ℕ
  branch_count s c = run (choice_at s c).first (choice_at s c).count (length branches)

  -- a branch of it
  abbrev pub branch_at : ℕ → ℕ → ℕ → ℕ × ℕ
  branch_at s c b = cond (nat_lt b (branch_count s c)) (slice_index_or branches ((choice_at s c).first + b) (0, 0)) (0, 0)

abbrev pub list_table : ℕ → List StateRow → List ChoiceRow → List (ℕ × ℕ) → Table
list_table W states choices branches = record {
  states = state_count states choices branches;
  denominator = W;
  choices = choice_count states choices branches;
  reward = λ s c. (choice_at states choices branches s c).reward;
  branches = branch_count states choices branches;
  branch = branch_at states choices branches;
}

-- the same of the lists that an `OwnedList` owns
abbrev pub owned_table : OwnedList → Table
owned_table o = list_table o.denominator (vec_items o.states) (vec_items o.choices) (vec_items o.branches)
