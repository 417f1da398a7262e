use Rattle.std.proofs.Common.{◌≡◌, ℕ, ◌-◌, Bool, true, false, ◌∙◌, refl, arith, rules, tests}
use Rattle.std.proofs.lemmas.Iterator.{YieldsList-from_range, first_from_find}
use Rattle.decomposition.specs.Bits.{bit_at}
use Rattle.decomposition.proofs.Searches.{lowest_found}
use Rattle.decomposition.proofs.number.lowest_state.Goals as goal

pub returns : goal.returns
returns c =
    let s : ℕ = c.args.state in
    let whole : s - 0 ≡ s = omega arith in
    let p : ℕ → Bool = bit_at c.args.square.now.rows.items s in
    c.unwrap_or.ensures
    ∙ lowest_found c.args.states s p c.find.result c.requires.within c.requires.itself
    (first_from_find _ _ c.find.result (λ (x : ℕ). p x ≡ true) (λ (x : ℕ). p x ≡ false) c.find.ensures.ran (YieldsList-from_range 0 s s refl whole)
    (λ x q k. search (rules, tests)) (λ x q k. search (rules, tests)))
