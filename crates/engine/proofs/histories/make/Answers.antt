use Rattle.std.proofs.Common.{◌≡◌, ℕ, List, [], sym, refl, ap, ◌∙◌, subst, vec_items, rules}
use Rattle.std.specs.Vec.{with_items}
use Rattle.std.proofs.lemmas.List.{with_items_is}
use Rattle.history.specs.Calls.{standing, quote, plan}
use Rattle.history.specs.Answers.{answer}
use Rattle.engine.specs.States.{state_of, list_after}
use Rattle.engine.specs.Replays.{answer_of, Makes}
use Rattle.engine.specs.declared.call.Call.{Call}
use Rattle.engine.specs.declared.call.Call.TheVariants as call
use Rattle.engine.proofs.Replays.{standing_stays, quote_stays, plan_stays}
use Rattle.engine.proofs.histories.make.Goals as goal

pub returns-in-Standing : goal.returns-in-Standing
returns-in-Standing g c =
    let S = state_of c.args.engine.now in
    let a : answer_of [] c.map_or_else-in-Standing.result ≡ answer S standing = search rules in
    subst (λ (k : Call g.row.S.Denot). Makes g.S.Source.table S S k k c.map_or_else-in-Standing.result) (sym c.in-Standing.is)
    record { answers = a; call = refl; holds = standing_stays S }

pub returns-in-Quote : goal.returns-in-Quote
returns-in-Quote g c =
    let S = state_of c.args.engine.now in
    let a : answer_of [] c.map_or_else-in-Quote.result ≡ answer S (quote c.in-Quote.state c.in-Quote.width) = search rules in
    let q = call.Quote c.in-Quote.state c.in-Quote.width in
    subst (λ (k : Call g.row.S.Denot). Makes g.S.Source.table S S k q c.map_or_else-in-Quote.result) (sym c.in-Quote.is)
    record { answers = a; call = refl; holds = quote_stays S c.in-Quote.state c.in-Quote.width }

pub returns-in-Plan : goal.returns-in-Plan
returns-in-Plan g c =
    let S = state_of c.args.engine.now in
    let list = vec_items c.in-Plan.list in
    let a : answer_of c.plan.new.list c.map_or_else-in-Plan.result ≡ answer S (plan list) = search rules in
    let q = call.Plan (with_items c.in-Plan.list c.plan.new.list) in
    subst (λ (k : Call g.row.S.Denot). Makes g.S.Source.table S S k q c.map_or_else-in-Plan.result) (sym c.in-Plan.is)
    let items : vec_items (with_items c.in-Plan.list c.plan.new.list) ≡ c.plan.new.list =
    with_items_is c.in-Plan.list c.plan.new.list (c.plan.auto.list ∙ c.deref_mut.ensures.len) in
    record {
      answers = ap (λ (l : List ℕ). answer_of l c.map_or_else-in-Plan.result) items ∙ a;
      call = ap plan (items ∙ c.plan.ensures.list ∙ ap (λ (l : List ℕ). list_after (answer S (plan l)) l) c.deref_mut.ensures.value);
      holds = plan_stays S list;
    }
