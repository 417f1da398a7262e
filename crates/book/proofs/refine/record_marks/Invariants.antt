use Rattle.rules.specs.Choosing.{at}
use Rattle.book.specs.Layouts.{layout_table}
use Rattle.book.proofs.Members.{Written}
use Rattle.book.proofs.refine.record_marks.Given as goal

-- the members so far are recorded
abbrev pub invariant-loop-state : goal.invariant-loop-state
invariant-loop-state l = Written (layout_table l.layout) l.node l.members 0 (at l.marks) l.state-index l.initial.recorded l.recorded
