use Rattle.components.specs.Inside.{passes}
use Rattle.decomposition.specs.Flags.{Flagged}
use Rattle.model.specs.Held.{table_of}
use Rattle.decomposition.proofs.passes.settle.Given as goal

-- what the passes so far have left
abbrev pub invariant-loop-turn : goal.invariant-loop-turn
invariant-loop-turn l = Flagged (table_of l.model) l.kept.flags.items (passes (table_of l.model) l._turn)
