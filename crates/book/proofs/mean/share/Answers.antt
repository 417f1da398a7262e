use Rattle.std.proofs.Common.{◌^◌, pos, ◌*ℤ◌, arith, w64, SFits, rules}
use Rattle.std.proofs.lemmas.Int.{ints, to_z-of_z}
use Rattle.book.proofs.RunSums.{scaled}
use Rattle.book.proofs.mean.share.Goals as goal

pub returns-clause-within : goal.returns-clause-within
returns-clause-within c =
    let fv : SFits w64 c.args.value = search rules in
    let fw : SFits w64 (pos c.args.weight) = omega (arith, ints) in
    let b = scaled c.args.weight c.args.value (2 ^ 46) c.requires.small.0 c.requires.small.1 in
    let fp : SFits w64 (pos c.args.weight *ℤ c.args.value) = omega (arith, ints) in
    simp (c.from.ensures, to_z-of_z) b
