use Rattle.decomposition.proofs.Marked.{Passing}
use Rattle.decomposition.proofs.reach.close_through.Given as goal

-- the rows so far have the ways through the middle state
abbrev pub invariant-loop-other : goal.invariant-loop-other
invariant-loop-other l = Passing l.states l.fn.rows l.other-items l.middle l.other-index
