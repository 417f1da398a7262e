use Rattle.std.proofs.Common.{ℕ, ◌/◌, ◌%◌, ◌^◌, get_or, eqb, ap}
use lib.Bits.{and_mask}
use Rattle.decomposition.specs.Bits.{bit_of}
use Rattle.decomposition.proofs.bits.bit_in.Goals as goal

pub returns : goal.returns
unfolding bit_of
returns c =
    let k : ℕ = c.args.column in
    ap (λ (x : ℕ). eqb x 1) (and_mask (get_or c.args.row.now (k / 64) 0 / 2 ^ (k % 64)) 1)
