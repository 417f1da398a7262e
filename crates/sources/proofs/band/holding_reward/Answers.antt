use Rattle.std.proofs.Common.{◌≡◌, ℕ, ◌*◌, ◌≤◌, ap, arith}
use Rattle.std.proofs.lemmas.Nat.{mul-le}
use Rattle.std.proofs.lemmas.Int.{ints}
use Rattle.sources.specs.Bands.{distance}
use Rattle.sources.proofs.band.holding_reward.Goals as goal

pub overflow_sub-result : goal.overflow_sub-result
overflow_sub-result c = omega (arith, ints, mul-le c.args.cost c.abs_diff.result 7000 256 (omega arith) (omega arith))

pub returns : goal.returns
returns c =
    let m : c.args.cost * c.abs_diff.result ≤ 7000 * 256 = mul-le c.args.cost c.abs_diff.result 7000 256 (omega arith) (omega arith) in
    let q : c.args.cost * c.abs_diff.result ≡ c.args.cost * distance c.args.half c.args.state = ap (λ (d : ℕ). c.args.cost * d) c.abs_diff.ensures in
    omega (arith, ints)
