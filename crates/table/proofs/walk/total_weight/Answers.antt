use Rattle.std.proofs.Common.{ℕ, ◌<◌, ◌^◌, ◌∙◌, rules, arith}
use Rattle.std.proofs.lemmas.Iterator.{YieldsList-from_map, YieldsList-from_range}
use Rattle.std.proofs.lemmas.Iterator.Adapters.{at_most_from_yields_List, fits_from_length}
use Rattle.std.proofs.lemmas.Iterator.Consumers.{sum_by_from_yields_List}
use Rattle.std.proofs.lemmas.List.FromFn.{length-range_with_len}
use Rattle.std.specs.List.{range_with_len}
use Rattle.table.specs.Table.{Table, weight}
use Rattle.table.proofs.Walks.{sum_range}
use Rattle.table.proofs.walk.total_weight.Goals as goal

-- fewer than 2^32 weights, each below 2^32
pub sum-requires-clause-fits : goal.sum-requires-clause-fits
sum-requires-clause-fits g c =
    let n : ℕ = c.branches.result in
    fits_from_length _ _ (2 ^ 32) (2 ^ 64) (at_most_from_yields_List (YieldsList-from_range 0 n n (search rules) (search rules)) (omega (arith, length-range_with_len 0 n))) c.map.ensures.closure (omega arith)
    (λ x r q k. let small : r < 2 ^ 32 = search rules in (search rules, omega arith))

pub returns : goal.returns
returns g c =
    let T : Table = g.S.Source.table c.args.source.now in
    let n : ℕ = T.branches c.args.state c.args.choice in
    let w : ℕ → ℕ = weight T c.args.state c.args.choice in
    sum_by_from_yields_List w (range_with_len 0 n) _ c.sum.result c.sum.ensures.ran
    (YieldsList-from_map _ w (YieldsList-from_range 0 n n (search rules) (search rules)) c.map.ensures.closure (λ x r q k. search rules))
    ∙ sum_range w n
