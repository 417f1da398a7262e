use Rattle.std.proofs.Common.{◌≡◌, arith}
use Rattle.decomposition.proofs.Words.{ored_all}
use Rattle.decomposition.proofs.bits.add_row.Goals as goal

pub returns : goal.returns
returns c = let e : c.loop-j.j ≡ 4 = omega arith in ored_all (rw e at c.loop-j.invariant)
