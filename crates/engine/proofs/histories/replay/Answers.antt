use Rattle.std.proofs.Common.{◌≤◌, length, sym, subst, arith}
use Rattle.engine.specs.States.{state_of}
use Rattle.engine.specs.Replays.{Makes}
use Rattle.engine.specs.declared.call.Asked.{Asked}
use Rattle.engine.proofs.Replays.{none_yet, one_more, all_made}
use Rattle.engine.proofs.histories.replay.Goals as goal

pub loop-one-init : goal.loop-one-init
loop-one-init g c = none_yet g.S.Source.table (g.S.Source.table c.args.source.now) c.args.asked.now (state_of c.open-engine.result) c.open-engine.ensures.opens

pub loop-one-preserved : goal.loop-one-preserved
loop-one-preserved g c =
    let made = subst (λ (x : Asked g.row.S.Denot). Makes g.S.Source.table (state_of c.loop-one.engine) (state_of c.make-answer.new.engine) x.call c.make-answer.new.call c.make-answer.result)
    (sym c.one-item.is) c.make-answer.ensures in
    one_more g.S.Source.table (g.S.Source.table c.args.source.now) c.args.asked.now c.loop-one.asked c.loop-one.one-index
    (state_of c.loop-one.engine) (state_of c.make-answer.new.engine) c.one-item.result c.make-answer.new.call c.make-answer.result
    c.loop-one.auto.asked c.loop-one-test.true c.one-item.is c.loop-one.invariant made

pub returns : goal.returns
returns g c =
    let past : length c.args.asked.now ≤ c.loop-one.one-index = omega arith in
    all_made g.S.Source.table (g.S.Source.table c.args.source.now) c.args.asked.now c.loop-one.asked c.loop-one.one-index
    (state_of c.loop-one.engine) c.loop-one.auto.asked past c.open-engine.ensures.bounds c.loop-one.invariant
