use Rattle.decomposition.specs.Bits.{bit_at}
use Rattle.decomposition.specs.Marking.{Shows, closure}
use Rattle.decomposition.proofs.bits.Square.close.Given as goal

-- the ways through the states so far have been added
abbrev pub invariant-loop-middle : goal.invariant-loop-middle
invariant-loop-middle l = Shows l.states l.self.rows.items (closure (bit_at l.initial.self.rows.items) l.middle)
