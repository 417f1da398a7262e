use Rattle.decomposition.specs.Dropping.{DroppedState}
use Rattle.model.specs.Held.{table_of}
use Rattle.decomposition.proofs.passes.drop_state.Given as goal

-- the choices so far have been tried
abbrev pub invariant-loop-choice : goal.invariant-loop-choice
invariant-loop-choice l =
    DroppedState (table_of l.model) l.square.rows.items l.state l.choice l.initial.kept.flags.items l.kept.flags.items l.changed
