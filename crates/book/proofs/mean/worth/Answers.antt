use Rattle.std.proofs.Common.{◌≡◌, ◌^◌, ℤ, pos, ◌+ℤ◌, ◌*ℤ◌, neg_ℤ, ◌≤ℤ◌, ap, ◌∙◌, arith, w32, w64, SFits, rules}
use Rattle.std.proofs.lemmas.Int.{ints, to_z-of_z}
use Rattle.book.proofs.mean.worth.Goals as goal

module _ (g : _) (c : goal.After-round g) where
  rounded : c.round.result ≡ g.S.Side.rounds c.args.total c.args.denominator
  rounded = let f : SFits w64 c.args.total = search rules in simp to_z-of_z at c.round.ensures

  bound : (neg_ℤ (pos (2 ^ 62)) ≤ℤ c.round.result) × (c.round.result ≤ℤ pos (2 ^ 62))
  bound = rw rounded (g.met.S.Side.within c.args.total c.args.denominator (2 ^ 62) c.requires.total.0 c.requires.total.1)

  reward : c.scaled.result ≡ pos 1048576 *ℤ c.args.reward
  reward = let f : SFits w32 c.args.reward = search rules in simp to_z-of_z at c.scaled.ensures.value

pub overflow_add-result : goal.overflow_add-result
overflow_add-result g c =
    let b = bound g c in
    let s = c.scaled.ensures.within in
    let fs : SFits w64 c.scaled.result = omega (arith, ints) in
    let fo : SFits w64 c.round.result = omega (arith, ints) in
    simp to_z-of_z (omega (arith, ints))

pub returns : goal.returns
returns g c =
    let b = bound g c in
    let s = c.scaled.ensures.within in
    let fs : SFits w64 c.scaled.result = omega (arith, ints) in
    let fo : SFits w64 c.round.result = omega (arith, ints) in
    let ft : SFits w64 (c.scaled.result +ℤ c.round.result) = omega (arith, ints) in
    simp to_z-of_z (ap (λ (z : ℤ). z +ℤ c.round.result) (reward g c) ∙ ap (λ (z : ℤ). (pos 1048576 *ℤ c.args.reward) +ℤ z) (rounded g c))
