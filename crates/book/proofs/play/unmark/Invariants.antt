use Rattle.std.proofs.Common.{None}
use Rattle.book.specs.Layouts.{layout_table}
use Rattle.book.proofs.Members.{Written}
use Rattle.book.proofs.play.unmark.Given as goal

-- the members so far have no mark
abbrev pub invariant-loop-state : goal.invariant-loop-state
invariant-loop-state l = Written (layout_table l.layout) l.node l.members None (λ s. None) l.state-index l.initial.distances l.distances
