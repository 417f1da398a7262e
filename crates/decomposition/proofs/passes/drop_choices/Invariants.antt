use Rattle.decomposition.specs.Dropping.{DroppedAll}
use Rattle.model.specs.Held.{table_of}
use Rattle.decomposition.proofs.passes.drop_choices.Given as goal

-- the states so far have been tried
abbrev pub invariant-loop-state : goal.invariant-loop-state
invariant-loop-state l = DroppedAll (table_of l.model) l.square.rows.items l.state l.initial.kept.flags.items l.kept.flags.items l.changed
