use Rattle.std.proofs.Common.{vec_items, ◌∙◌, arith}
use Rattle.table.specs.Table.{Table}
use Rattle.model.proofs.Copies.{states_more}
use Rattle.model.proofs.Pushes.{pushed}
use Rattle.model.proofs.copy.copy_states.Goals as goal

pub loop-state-preserved : goal.loop-state-preserved
loop-state-preserved g c =
    let T : Table = g.S.Source.table c.args.source.now in (
      states_more T c.loop-state.state _ (vec_items c.loop-state.rows.states) (vec_items c.push.new.self)
          (vec_items c.loop-state.rows.choices) (vec_items c.copy_choices.new.choices)
          (vec_items c.loop-state.rows.branches) (vec_items c.copy_choices.new.branches) c.loop-state.invariant.0
          c.copy_choices.ensures.copied
          (c.requires.lawful.choices c.loop-state.state (omega arith)).1
          (pushed c.push.result c.unwrap.result (vec_items c.loop-state.rows.states) _ _ c.unwrap.ensures c.push.ensures.items)
          (c.len-first.ensures ∙ c.loop-state.rows.choices.ok.0) c.choices-count.ensures,
      c.loop-state.invariant.1,
      (omega arith, omega arith, omega arith),
    )
