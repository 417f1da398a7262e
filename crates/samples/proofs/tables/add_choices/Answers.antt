use Rattle.std.proofs.Common.{vec_items, ◌∙◌, refl, arith, rules, w32, SFits}
use Rattle.std.proofs.lemmas.Int.{to_z-of_z}
use Rattle.samples.proofs.Added.{choices_add}
use Rattle.samples.proofs.tables.add_choices.Goals as goal

pub loop-choice-preserved : goal.loop-choice-preserved
loop-choice-preserved g c =
    let i = c.loop-choice.invariant in
    record {
      denominator = i.denominator;
      states = i.states;
      choices = omega (arith, i.choices, c.in_ok-push.ensures.len);
      branches = omega (arith, i.branches, c.in_ok-add_branches.ensures.long);
      rows = choices_add c.args.spread c.args.state c.loop-choice.choice c.args.count _ _ (vec_items c.args.table.now.choices) (vec_items c.loop-choice.table.choices)
          (vec_items c.push.new.self) (vec_items c.args.table.now.branches) (vec_items c.loop-choice.table.branches) (vec_items c.add_branches.new.branches)
          c.requires.state (omega arith) c.requires.count i.rows c.in_ok-add_branches.ensures.items
          c.in_ok-push.ensures.items
          (let f : SFits w32 c.reward_of.result = search rules in simp to_z-of_z c.reward_of.ensures)
          (c.len-first.ensures ∙ c.loop-choice.table.branches.ok.0) refl;
    }
