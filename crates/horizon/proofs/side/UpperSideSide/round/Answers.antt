use Rattle.std.proofs.Common.{ℤ, ap, ◌∙◌, arith, w64}
use Rattle.std.proofs.lemmas.Int.{ints, to_z-of_z}
use Rattle.horizon.specs.Means.{round_up}
use Rattle.horizon.proofs.Quotients.{up_more, up_same, up_greatest}
use Rattle.horizon.proofs.side.UpperSideSide.round.Goals as goal

pub returns-then-rest-gt0 : goal.returns-then-rest-gt0
returns-then-rest-gt0 c =
    let d = c.divided-whole.ensures in
    let t = c.if-rest-gt0.true in
    let m = up_more _ c.args.denominator _ _ d.zero d.whole d.rest (omega (arith, ints)) ∙ ap (λ (z : ℤ). round_up z c.args.denominator) (to_z-of_z w64 c.args.total c.ranges.total) in
    let f = up_greatest c.args.total c.args.denominator c.ranges.total in
    omega (arith, ints)

pub returns-else-rest-gt0 : goal.returns-else-rest-gt0
returns-else-rest-gt0 c =
    let d = c.divided-whole.ensures in
    let t = c.if-rest-gt0.false in
    let m = up_same _ c.args.denominator _ _ d.zero d.whole d.rest (omega (arith, ints)) ∙ ap (λ (z : ℤ). round_up z c.args.denominator) (to_z-of_z w64 c.args.total c.ranges.total) in
    omega (arith, ints)
