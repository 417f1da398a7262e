use Rattle.decomposition.specs.Flags.{flag_at}
use Rattle.model.specs.Held.{table_of}
use Rattle.decomposition.proofs.Marked.{Rows}
use Rattle.decomposition.proofs.reach.mark_steps.Given as goal

-- the states so far are marked
abbrev pub invariant-loop-state : goal.invariant-loop-state
invariant-loop-state l = Rows (table_of l.model) (flag_at l.kept.flags.items) l.state l.square.rows.items
