use Rattle.std.proofs.Common.{◌≡◌, ◌^◌, [], length, get_or, fold, FitsSigned, pos, ◌+ℤ◌, ◌*ℤ◌, sym, ap, ◌∙◌, append-nil, ℕ, arith, w64, SFits, rules}
use Rattle.std.proofs.lemmas.Int.{ints, to_z-of_z}
use Rattle.std.proofs.lemmas.List.{length-map}
use Rattle.std.proofs.lemmas.Iterator.{YieldsList-from_slice, YieldsList-from_map}
use Rattle.std.proofs.lemmas.Iterator.Adapters.{serves_from_places}
use Rattle.book.specs.Bounded.{Bounded}
use Rattle.book.specs.RunSums.{run_sum}
use Rattle.book.proofs.RunSums.{branch_fits, along, terms, terms_sum, terms_few, part_sum, part_small, total_is}
use Rattle.book.proofs.mean.total.Goals as goal

pub sum-requires-clause-can : goal.sum-requires-clause-can
sum-requires-clause-can c = (
  tt,
  serves_from_places (YieldsList-from_slice c.args.run.now cc) (λ x q r. search rules)
      (λ x k h e. let p = branch_fits c.args.run.now c.args.values.now c.requires.inside c.requires.light c.requires.small x.now k h e in search rules),
)

pub sum-requires-clause-fits : goal.sum-requires-clause-fits
sum-requires-clause-fits c =
    let run = c.args.run.now in
    let values = c.args.values.now in
    along (terms run values) (λ xs. FitsSigned w64 (fold ◌+ℤ◌ (pos 0) xs))
    (YieldsList-from_map _ (λ x. pos x.1 *ℤ get_or values x.0 (pos 0)) (YieldsList-from_slice run cc) c.map.ensures.closure (λ x r q k. search rules))
    (λ xs more e.
    let s = terms_sum run values xs more e in
    let b = part_small run values c.requires.inside c.requires.light c.requires.small (length xs) (terms_few run values xs more e) in
    omega (arith, ints))

module _ (c : goal.After-sum) where
  sum_is : c.sum.result ≡ run_sum c.args.run.now c.args.values.now
  sum_is =
      let run = c.args.run.now in
      let values = c.args.values.now in
      total_is (terms run values) _ c.sum.result c.sum.ensures.ran
      (YieldsList-from_map _ (λ x. pos x.1 *ℤ get_or values x.0 (pos 0)) (YieldsList-from_slice run cc) c.map.ensures.closure (λ x r q k. search rules))
      ∙ terms_sum run values (terms run values) [] (sym (append-nil (terms run values)))
      ∙ ap (λ (k : ℕ). part_sum run values k) (length-map run (λ x. pos x.1 *ℤ get_or values x.0 (pos 0)))

  within : Bounded (2 ^ 62) c.sum.result
  within =
      let e = sum_is in
      let b = part_small c.args.run.now c.args.values.now c.requires.inside c.requires.light c.requires.small (length c.args.run.now) (omega arith) in
      (omega (arith, ints), omega (arith, ints))

pub returns : goal.returns
returns c =
    let b = within c in
    let f : SFits w64 c.sum.result = omega (arith, ints) in
    record { value = simp to_z-of_z (sum_is c); within = simp to_z-of_z b }
