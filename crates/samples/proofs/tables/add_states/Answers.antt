use Rattle.std.proofs.Common.{◌≡◌, vec_items, vec_len, [], ◌∷◌, ◌++◌, ◌∙◌, refl, ap, arith}
use Rattle.sources.specs.declared.list.StateRow.{StateRow}
use Rattle.samples.proofs.Added.{states_add, states_all}
use Rattle.samples.proofs.tables.add_states.Goals as goal

pub loop-state-preserved : goal.loop-state-preserved
loop-state-preserved g c =
    let i = c.loop-state.invariant in
    let e = c.add_choices.ensures in
    let row : StateRow = record { first = c.len-first.result; count = 16 } in
    let pushed : vec_items c.push.new.self ≡ vec_items c.add_choices.new.table.states ++ (row ∷ []) = c.in_ok-push.ensures.items in
    record {
      denominator = e.denominator ∙ i.denominator;
      states = omega (arith, i.states, c.in_ok-push.ensures.len, ap (λ v. vec_len v) e.states);
      choices = omega (arith, i.choices, c.in_ok-add_choices.ensures.choices);
      branches = omega (arith, i.branches, c.in_ok-add_choices.ensures.branches);
      few_choices = omega (arith, i.few_choices, c.in_ok-add_choices.ensures.choices);
      few_branches = omega (arith, i.few_branches, c.in_ok-add_choices.ensures.branches, c.requires.count);
      rows = states_add c.args.spread c.args.from c.args.to c.loop-state.state c.args.count _ row (vec_items c.args.table.now.states) (vec_items c.loop-state.table.states)
          (vec_items c.push.new.self) (vec_items c.args.table.now.choices) (vec_items c.loop-state.table.choices) (vec_items c.add_choices.new.table.choices)
          (vec_items c.args.table.now.branches) (vec_items c.loop-state.table.branches) (vec_items c.add_choices.new.table.branches)
          (omega arith) (omega arith) c.requires.to i.rows c.in_ok-add_choices.ensures.rows
          (pushed ∙ ap (λ v. vec_items v ++ (row ∷ [])) e.states)
          (c.len-first.ensures ∙ c.loop-state.table.choices.ok.0) refl;
    }

pub returns-clause-rows : goal.returns-clause-rows
returns-clause-rows g c =
    states_all c.args.spread c.args.from c.args.to c.loop-state.state c.args.count _ (vec_items c.args.table.now.states) (vec_items c.loop-state.table.states)
    (vec_items c.args.table.now.choices) (vec_items c.loop-state.table.choices) (vec_items c.args.table.now.branches) (vec_items c.loop-state.table.branches)
    (omega arith) c.loop-state.invariant.rows
