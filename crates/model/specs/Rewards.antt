-- What the rows of choices earn.
use Rattle.std.specs.Prelude.{List, map, ℤ}
use Rattle.sources.specs.declared.list.ChoiceRow.{ChoiceRow}

abbrev pub rewards : List ChoiceRow → List ℤ
rewards choices = map (λ (row : ChoiceRow). row.reward) choices
