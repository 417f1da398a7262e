use Rattle.components.specs.Below.{any}
use Rattle.table.specs.Table.{successor}
use Rattle.std.proofs.Common.{eqb}
use Rattle.decomposition.specs.Bits.{Marks}
use Rattle.model.specs.Held.{table_of}
use Rattle.decomposition.proofs.reach.mark_choice.Given as goal

-- the branches so far are marked
abbrev pub invariant-loop-successor : goal.invariant-loop-successor
invariant-loop-successor l =
    Marks l.initial.square.rows.items l.square.rows.items l.state
    (λ t. any l.successor-index (λ b. eqb (successor (table_of l.model) l.state l.choice b) t))
