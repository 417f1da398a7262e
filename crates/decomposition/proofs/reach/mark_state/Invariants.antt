use Rattle.decomposition.specs.Bits.{Marks}
use Rattle.decomposition.specs.Flags.{flag_at}
use Rattle.model.specs.Held.{table_of}
use Rattle.decomposition.proofs.Marked.{by_choices}
use Rattle.decomposition.proofs.reach.mark_state.Given as goal

-- the kept choices so far are marked
abbrev pub invariant-loop-choice : goal.invariant-loop-choice
invariant-loop-choice l =
    Marks l.initial.square.rows.items l.square.rows.items l.state (by_choices (table_of l.model) (flag_at l.kept.flags.items) l.state l.choice)
