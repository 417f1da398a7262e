use Rattle.std.proofs.Common.{vec_items}
use Rattle.decomposition.specs.Numbered.{Numbered}
use Rattle.model.specs.Held.{table_of}
use Rattle.decomposition.proofs.parts.Parts.number.Given as goal

-- the states so far are numbered
abbrev pub invariant-loop-state : goal.invariant-loop-state
invariant-loop-state l =
    Numbered (table_of l.apart.model.now) l.state (vec_items l.self.node) (vec_items l.self.component) l.self.components
