-- The table that a model holds.
use Rattle.table.specs.Table.{Table}
use Rattle.sources.specs.Rows.{owned_table}
use Rattle.model.specs.declared.model.Model.{Model}

abbrev pub table_of : Model → Table
table_of m = owned_table m.rows
