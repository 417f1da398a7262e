use Rattle.std.proofs.Common.{◌≡◌, ℕ, ◌-◌, ap, ◌∙◌, refl, arith, rules, tests}
use Rattle.std.specs.List.{range_with_len}
use Rattle.std.proofs.lemmas.Iterator.{YieldsList-from_range, YieldsList-from_map}
use Rattle.std.proofs.lemmas.Iterator.Consumers.{YieldsList-at, sum_by_from_yields_List, fits_by_from_yields_list}
use Rattle.table.specs.Sums.{sum_n}
use Rattle.table.specs.Table.{Table}
use Rattle.table.proofs.Walks.{sum_range}
use Rattle.model.specs.Held.{table_of}
use Rattle.model.proofs.Unbroken.{model_lawful}
use Rattle.decomposition.proofs.Searches.{few_counted}
use Rattle.decomposition.proofs.number.count_choices.Goals as goal

pub sum-requires-clause-fits : goal.sum-requires-clause-fits
sum-requires-clause-fits c =
    let T : Table = table_of c.args.model.now in
    let n : ℕ = c.states.result in
    let whole : n - 0 ≡ n = omega arith in
    fits_by_from_yields_list T.choices (range_with_len 0 n) c.map.result _
    (YieldsList-from_map _ T.choices (YieldsList-at c.map.ensures.source (YieldsList-from_range 0 n n refl whole)) c.map.ensures.closure (λ x r q k. search (rules, tests)))
    (few_counted T (model_lawful c.args.model.now) n c.states.ensures.value)

pub returns : goal.returns
returns c =
    let T : Table = table_of c.args.model.now in
    let n : ℕ = c.states.result in
    let whole : n - 0 ≡ n = omega arith in
    sum_by_from_yields_List T.choices (range_with_len 0 n) c.map.result c.sum.result c.sum.ensures.ran
    (YieldsList-from_map _ T.choices (YieldsList-at c.map.ensures.source (YieldsList-from_range 0 n n refl whole)) c.map.ensures.closure (λ x r q k. search (rules, tests)))
    ∙ sum_range T.choices n ∙ ap (λ (k : ℕ). sum_n k T.choices) c.states.ensures.value
