use Rattle.book.specs.Listed.{HomesBelow}
use Rattle.book.proofs.listed.write_homes.Given as goal

-- the nodes so far are written
abbrev pub invariant-loop-node : goal.invariant-loop-node
invariant-loop-node l = HomesBelow l.component l.node l.home
