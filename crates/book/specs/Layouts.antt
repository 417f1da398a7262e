-- The lists of a layout, and the table that they hold.
use Rattle.std.specs.Prelude.{◌≡◌, ℕ, ◌+◌, Bool, List, vec_items, slice_index_or}
use Rattle.table.specs.Table.{Table}
use Rattle.table.specs.Limits.{Lawful}
use Rattle.sources.specs.Rows.{no_state, no_choice}
use Rattle.sources.specs.declared.list.StateRow.{StateRow}
use Rattle.sources.specs.declared.list.ChoiceRow.{ChoiceRow}
use Rattle.model.specs.Held.{table_of}
use Rattle.book.specs.declared.layout.Layout.{Layout}

-- the rows of the table
abbrev pub denominator_of : Layout → ℕ
denominator_of l = l.model.rows.denominator

abbrev pub state_rows : Layout → List StateRow
state_rows l = vec_items l.model.rows.states

abbrev pub choice_rows : Layout → List ChoiceRow
choice_rows l = vec_items l.model.rows.choices

abbrev pub branch_rows : Layout → List (ℕ × ℕ)
branch_rows l = vec_items l.model.rows.branches

-- each branch with the node of its successor, and of each choice whether it is inside
abbrev pub link_rows : Layout → List (ℕ × ℕ)
link_rows l = vec_items l.lists.links

abbrev pub inside_flags : Layout → List Bool
inside_flags l = vec_items l.lists.parts.inside

abbrev pub layout_table : Layout → Table
layout_table l = table_of l.model

-- the row of a state, and that of a choice
abbrev pub row_of : Layout → ℕ → StateRow
row_of l s = slice_index_or (state_rows l) s no_state

abbrev pub choice_of : Layout → ℕ → ℕ → ChoiceRow
choice_of l s c = slice_index_or (choice_rows l) ((row_of l s).first + c) no_choice

-- the layout of a lawful table: the table at every place of it
pub record LaidOut (T : Table) (l : Layout) : Type 0 where
  pub lawful : Lawful T
  pub same : layout_table l ≡ T
