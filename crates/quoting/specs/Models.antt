-- The table that a model file gives.
use Rattle.std.specs.Prelude.{Ok, Err, Result}
use Rattle.table.specs.Table.{Table}
use Rattle.sources.specs.Rows.{list_table}
use Rattle.sources.specs.declared.list.List.{List}
use Rattle.modelfile.specs.File.{Model}
use Rattle.modelfile.specs.Lists.{denominator_of, model_states, model_choices, model_branches}
use Rattle.modelfile.specs.declared.fault.FileFault.{FileFault}

-- the table that the lists of a model stand for
abbrev pub table_of : Model → Table
table_of m = list_table (denominator_of m) (model_states m) (model_choices m) (model_branches m)

abbrev pub table_read : Result Model FileFault → Result Table FileFault
table_read (Ok m) = Ok (table_of m)
table_read (Err e) = Err e

-- the table of a source over lists
abbrev pub table_in : Result List FileFault → Result Table FileFault
table_in (Ok l) = Ok (list_table l.denominator l.states.now l.choices.now l.branches.now)
table_in (Err e) = Err e
