use Rattle.std.proofs.Common.{vec_items, ◌∙◌, arith, w32, SFits, rules}
use Rattle.std.proofs.lemmas.Int.{to_z-of_z}
use Rattle.table.specs.Table.{Table}
use Rattle.model.proofs.Copies.{choices_more}
use Rattle.model.proofs.Pushes.{pushed}
use Rattle.model.proofs.copy.copy_choices.Goals as goal

pub loop-choice-preserved : goal.loop-choice-preserved
loop-choice-preserved g c =
    let T : Table = g.S.Source.table c.args.source.now in (
      choices_more T c.args.state c.loop-choice.choice _ (vec_items c.args.choices.now) (vec_items c.loop-choice.choices)
          (vec_items c.push.new.self) (vec_items c.args.branches.now) (vec_items c.loop-choice.branches)
          (vec_items c.copy_branches.new.branches) c.loop-choice.invariant.0
          (c.requires.lawful.branches c.args.state c.loop-choice.choice c.requires.within (omega arith)).1
          c.copy_branches.ensures.copied
          (pushed c.push.result c.unwrap.result (vec_items c.loop-choice.choices) _ _ c.unwrap.ensures c.push.ensures.items)
          (let f : SFits w32 c.reward-reward.result = search rules in simp to_z-of_z c.reward-reward.ensures)
          (c.len-first.ensures ∙ c.loop-choice.branches.ok.0) c.branches-count.ensures,
      omega arith,
      omega arith,
    )
