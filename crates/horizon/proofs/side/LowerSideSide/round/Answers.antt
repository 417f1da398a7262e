use Rattle.std.proofs.Common.{ℤ, ap, ◌∙◌, arith, w64}
use Rattle.std.proofs.lemmas.Int.{ints, to_z-of_z}
use Rattle.horizon.specs.Means.{round_down}
use Rattle.horizon.proofs.Quotients.{down_less, down_same, down_least}
use Rattle.horizon.proofs.side.LowerSideSide.round.Goals as goal

pub returns-then-rest-lt0 : goal.returns-then-rest-lt0
returns-then-rest-lt0 c =
    let d = c.divided-whole.ensures in
    let t = c.if-rest-lt0.true in
    let m = down_less _ c.args.denominator _ _ d.zero d.whole d.rest (omega (arith, ints)) ∙ ap (λ (z : ℤ). round_down z c.args.denominator) (to_z-of_z w64 c.args.total c.ranges.total) in
    let f = down_least c.args.total c.args.denominator c.ranges.total in
    omega (arith, ints)

pub returns-else-rest-lt0 : goal.returns-else-rest-lt0
returns-else-rest-lt0 c =
    let d = c.divided-whole.ensures in
    let t = c.if-rest-lt0.false in
    let m = down_same _ c.args.denominator _ _ d.zero d.whole d.rest (omega (arith, ints)) ∙ ap (λ (z : ℤ). round_down z c.args.denominator) (to_z-of_z w64 c.args.total c.ranges.total) in
    omega (arith, ints)
