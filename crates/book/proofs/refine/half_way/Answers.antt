use Rattle.std.proofs.Common.{◌≡◌, ◌^◌, ℤ, pos, ◌+ℤ◌, neg_ℤ, ◌≤ℤ◌, ap, arith, w64, SFits, rules}
use Rattle.std.proofs.lemmas.Int.{ints, to_z-of_z}
use Rattle.horizon.specs.Means.{round_down}
use Rattle.horizon.specs.Rounding.{down_within}
use Rattle.book.proofs.refine.half_way.Goals as goal

module _ (c : goal.After-round) where
  rounded : c.round.result ≡ round_down c.args.down 2
  rounded = let f : SFits w64 c.args.down = search rules in simp to_z-of_z at c.round.ensures

  bound : (neg_ℤ (pos (2 ^ 48)) ≤ℤ c.round.result) × (c.round.result ≤ℤ pos (2 ^ 48))
  bound = rw rounded (down_within c.args.down 2 (2 ^ 48) c.requires.down.0 c.requires.down.1)

pub overflow_add-result : goal.overflow_add-result
overflow_add-result c =
    let b = bound c in
    let l = c.requires.here.0 in
    let h = c.requires.here.1 in
    let fh : SFits w64 c.args.here = omega (arith, ints) in
    let fo : SFits w64 c.round.result = omega (arith, ints) in
    simp to_z-of_z (omega (arith, ints))

pub returns : goal.returns
returns c =
    let b = bound c in
    let l = c.requires.here.0 in
    let h = c.requires.here.1 in
    let fh : SFits w64 c.args.here = omega (arith, ints) in
    let fo : SFits w64 c.round.result = omega (arith, ints) in
    let ft : SFits w64 (c.args.here +ℤ c.round.result) = omega (arith, ints) in
    simp to_z-of_z (ap (λ (z : ℤ). c.args.here +ℤ z) (rounded c))
