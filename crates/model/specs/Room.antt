-- Lists with places for the rows of every lawful table, and the table that a model holds before its first load.
use Rattle.std.specs.Prelude.{◌≤◌, [], ◌∷◌, pos, vec_capacity}
use Rattle.table.specs.Table.{Table}
use Rattle.sources.specs.Rows.{list_table}
use Rattle.sources.specs.declared.owned.OwnedList.{OwnedList}

-- 256 states, 16 choices to each, 8 branches to each
abbrev pub HasRoom : OwnedList → Type 0
HasRoom o = (256 ≤ vec_capacity o.states) × (4096 ≤ vec_capacity o.choices) × (32768 ≤ vec_capacity o.branches)

-- one state that stays and earns 0
abbrev pub still_table : Table
still_table = list_table 1 (record { first = 0; count = 1 } ∷ []) (record { reward = pos 0; first = 0; count = 1 } ∷ []) ((0, 1) ∷ [])
