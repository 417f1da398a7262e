use Rattle.std.proofs.Common.{sym, ◌∙◌, rules, tests}
use Rattle.std.specs.Int.{int_max}
use Rattle.std.specs.Ordering.{int_cmp, max_by_ordering}
use Rattle.std.proofs.lemmas.Iterator.{YieldsList-from_slice, YieldsList-from_map}
use Rattle.std.proofs.lemmas.Iterator.Adapters.{option_map_id}
use Rattle.std.proofs.lemmas.Iterator.Consumers.{reduce_by_from_yields_List}
use Rattle.sources.specs.declared.list.ChoiceRow.{ChoiceRow}
use Rattle.model.proofs.Extremes.{max_same}
use Rattle.model.proofs.rewards.largest_reward.Goals as goal

pub returns : goal.returns
returns c =
    sym (option_map_id c.max.result)
    ∙ reduce_by_from_yields_List (λ x y. max_by_ordering (int_cmp x y) x y) int_max c.map.result c.max.result max_same c.max.ensures.ran
    (YieldsList-from_map _ (λ (row : ChoiceRow). row.reward) (YieldsList-from_slice c.args.choices.now cc) c.map.ensures.closure
    (λ x r q k. search (rules, tests)))
