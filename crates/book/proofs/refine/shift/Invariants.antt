use Rattle.std.proofs.Common.{get_or, pos, ◌-ℤ◌}
use Rattle.book.specs.Layouts.{layout_table}
use Rattle.book.proofs.Members.{Written}
use Rattle.book.proofs.refine.shift.Given as goal

-- the members so far are shifted
abbrev pub invariant-loop-state : goal.invariant-loop-state
invariant-loop-state l = Written (layout_table l.layout) l.node l.members (pos 0) (λ s. get_or l.halfway s (pos 0) -ℤ l.least) l.state-index l.initial.vector l.vector
