use Rattle.decomposition.proofs.Words.{Ored}
use Rattle.decomposition.proofs.bits.add_row.Given as goal

-- the words before j have those of the other row besides
abbrev pub invariant-loop-j : goal.invariant-loop-j
invariant-loop-j l = Ored l.initial.row l.row l.other l.j
