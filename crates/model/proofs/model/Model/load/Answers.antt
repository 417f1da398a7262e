use Rattle.std.proofs.Common.{unwrap_or, pos, vec_items, sym, ap, ◌∙◌, subst, arith, w32, SFits, rules}
use Rattle.std.specs.Int.{int_min, int_max}
use Rattle.std.specs.List.{reduce}
use Rattle.std.proofs.lemmas.Int.{to_z-of_z}
use Rattle.table.specs.Table.{Table}
use Rattle.table.specs.Walk.{fault_of}
use Rattle.model.specs.Unbroken.{Unbroken}
use Rattle.model.proofs.Unbroken.{lawful_unbroken}
use Rattle.model.proofs.Loading.{verdict_ok}
use Rattle.model.proofs.Copies.{copied_rows}
use Rattle.model.specs.Rewards.{rewards}
use Rattle.model.proofs.Extremes.{some_of, some_reward, least_copied, largest_copied}
use Rattle.model.proofs.model.Model.load.Goals as goal

pub invariant_of-self : goal.invariant_of-self
invariant_of-self g c =
    let T : Table = g.S.Source.table c.args.source.now in
    let e = c.in_ok-check.ensures in
    let rows = c.copy_states.new.rows in
    let copied = c.copy_states.ensures in
    let law = e.law.lawful.0 (verdict_ok (fault_of T) (sym e.decides)) in
    let size = copied.copied.rows.size in
    let most = law.states.1 in
    let long = rows.states.ok.0 in
    let few_b = copied.copied.rows.few_branches in
    let long_b = rows.branches.ok.0 in
    let some = some_reward T law (vec_items rows.states) (vec_items rows.choices) (vec_items rows.branches) copied.copied.rows in
    let f₁ : SFits w32 c.unwrap_or-self.result = search rules in
    let f₂ : SFits w32 c.unwrap_or-self-2.result = search rules in
    record {
      room = copied.room;
      few = omega arith;
      few_branches = omega arith;
      lawful = subst Unbroken
          (sym (copied_rows T law copied.copied.outside (vec_items rows.states) (vec_items rows.choices) (vec_items rows.branches) copied.copied.rows
          rows.denominator copied.denominator))
          (lawful_unbroken T law);
      least_is = simp to_z-of_z
          (some_of int_min (rewards (vec_items rows.choices)) c.unwrap_or-self.result some
          (c.unwrap_or-self.ensures
          ∙ ap (λ o. unwrap_or o (pos 0)) (c.least_reward.ensures ∙ ap (λ xs. reduce int_min (rewards xs)) c.deref.ensures.value)));
      largest_is = simp to_z-of_z
          (some_of int_max (rewards (vec_items rows.choices)) c.unwrap_or-self-2.result some
          (c.unwrap_or-self-2.ensures
          ∙ ap (λ o. unwrap_or o (pos 0)) (c.largest_reward.ensures ∙ ap (λ xs. reduce int_max (rewards xs)) c.deref-2.ensures.value)));
    }

pub returns : goal.returns
returns g c =
    let T : Table = g.S.Source.table c.args.source.now in
    let e = c.in_ok-check.ensures in
    let rows = c.copy_states.new.rows in
    let copied = c.copy_states.ensures in
    let law = e.law.lawful.0 (verdict_ok (fault_of T) (sym e.decides)) in
    let f₁ : SFits w32 c.unwrap_or-self.result = search rules in
    let f₂ : SFits w32 c.unwrap_or-self-2.result = search rules in
    record {
      lawful = law;
      same = copied_rows T law copied.copied.outside (vec_items rows.states) (vec_items rows.choices) (vec_items rows.branches) copied.copied.rows rows.denominator copied.denominator;
      least = simp to_z-of_z
          (least_copied T law (vec_items rows.states) (vec_items rows.choices) (vec_items rows.branches) copied.copied.rows c.unwrap_or-self.result
          (c.unwrap_or-self.ensures
          ∙ ap (λ o. unwrap_or o (pos 0)) (c.least_reward.ensures ∙ ap (λ xs. reduce int_min (rewards xs)) c.deref.ensures.value)));
      largest = simp to_z-of_z
          (largest_copied T law (vec_items rows.states) (vec_items rows.choices) (vec_items rows.branches) copied.copied.rows c.unwrap_or-self-2.result
          (c.unwrap_or-self-2.ensures
          ∙ ap (λ o. unwrap_or o (pos 0)) (c.largest_reward.ensures ∙ ap (λ xs. reduce int_max (rewards xs)) c.deref-2.ensures.value)));
    }
