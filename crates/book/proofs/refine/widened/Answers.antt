use Rattle.std.proofs.Common.{◌≡◌, ◌⊎◌, ℤ, inl, inr, ⊎_elim, arith, w64, SFits, to_z, of_z, rules}
use lib.Signed.{lt_z}
use Rattle.std.specs.Int.{int_min, int_max}
use Rattle.std.proofs.lemmas.Bool.{cases_cond}
use Rattle.std.proofs.lemmas.Int.{ints, to_z-of_z}
use Rattle.book.proofs.refine.widened.Goals as goal

-- the larger of two numbers is one of them, and so is the smaller
larger_is : (a b r : ℤ) → SFits w64 a → SFits w64 b → SFits w64 r → r ≡ int_max (to_z w64 (of_z w64 a)) (to_z w64 (of_z w64 b))
    → (to_z w64 (of_z w64 r) ≡ a) ⊎ (to_z w64 (of_z w64 r) ≡ b)
larger_is a b r fa fb fr e = simp to_z-of_z (cases_cond (lt_z b a) a b r (simp to_z-of_z at e))

smaller_is : (a b r : ℤ) → SFits w64 a → SFits w64 b → SFits w64 r → r ≡ int_min (to_z w64 (of_z w64 a)) (to_z w64 (of_z w64 b))
    → (to_z w64 (of_z w64 r) ≡ a) ⊎ (to_z w64 (of_z w64 r) ≡ b)
smaller_is a b r fa fb fr e = simp to_z-of_z (⊎_elim (λ (q : r ≡ b). inr q) (λ (q : r ≡ a). inl q) (cases_cond (lt_z b a) b a r (simp to_z-of_z at e)))

pub returns : goal.returns
returns c =
    let a : SFits w64 c.args.found.up = search rules in
    let b : SFits w64 c.args.gain.up = search rules in
    let d : SFits w64 c.args.found.down = search rules in
    let e : SFits w64 c.args.gain.down = search rules in
    let g : SFits w64 c.args.found.least = search rules in
    let h : SFits w64 c.args.half = search rules in
    let i : SFits w64 c.args.found.largest = search rules in
    let up : SFits w64 c.max.result = search rules in
    let down : SFits w64 c.min.result = search rules in
    let least : SFits w64 c.min-2.result = search rules in
    let largest : SFits w64 c.max-2.result = search rules in
    record {
      up = (omega (arith, ints), omega (arith, ints), larger_is c.args.found.up c.args.gain.up c.max.result a b up c.max.ensures.value);
      down = (omega (arith, ints), omega (arith, ints), smaller_is c.args.found.down c.args.gain.down c.min.result d e down c.min.ensures.value);
      least = (omega (arith, ints), omega (arith, ints), smaller_is c.args.found.least c.args.half c.min-2.result g h least c.min-2.ensures.value);
      largest = (omega (arith, ints), omega (arith, ints), larger_is c.args.found.largest c.args.half c.max-2.result i h largest c.max-2.ensures.value);
    }
