use Rattle.std.proofs.Common.{◌≡◌, ℕ, ◌-◌, Bool, ap, ◌∙◌, refl, arith, rules, tests}
use Rattle.std.proofs.lemmas.Iterator.{YieldsList-from_range}
use Rattle.std.proofs.lemmas.Iterator.Search.{any_from_yields_List}
use Rattle.components.specs.Below.{any}
use Rattle.decomposition.specs.Flags.{flag_at}
use Rattle.decomposition.proofs.Searches.{any_counted}
use Rattle.decomposition.proofs.number.has_choice.Goals as goal

pub returns : goal.returns
returns c =
    let p : ℕ → Bool = flag_at c.args.kept.now.flags.items c.args.state in
    let n : ℕ = c.choices.result in
    let whole : n - 0 ≡ n = omega arith in
    any_from_yields_List p _ _ c.any.result c.any.ensures.ran (YieldsList-from_range 0 n n refl whole) (λ x b q k. search (rules, tests))
    ∙ any_counted n p ∙ ap (λ (k : ℕ). any k p) c.choices.ensures
