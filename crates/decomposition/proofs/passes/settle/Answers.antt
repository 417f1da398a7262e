use Rattle.std.proofs.Common.{◌≡◌, arith}
use Rattle.table.specs.Sums.{sum_n}
use Rattle.table.specs.Table.{Table}
use Rattle.model.specs.Held.{table_of}
use Rattle.model.proofs.Unbroken.{model_lawful}
use Rattle.decomposition.proofs.Drops.{turn_none, turn_more, turn_last, turn_all}
use Rattle.decomposition.proofs.passes.settle.Goals as goal

pub loop-turn-init : goal.loop-turn-init
loop-turn-init c = turn_none (table_of c.args.model.now) (model_lawful c.args.model.now) c.args.kept.now.flags.items c.requires

pub returns-then-not-pass-clause-kept : goal.returns-then-not-pass-clause-kept
returns-then-not-pass-clause-kept c =
    turn_last (table_of c.args.model.now) (model_lawful c.args.model.now) c.loop-turn.kept.flags.items c.pass.new.kept.flags.items c.pass.result
    c.loop-turn._turn c.loop-turn.invariant c.pass.ensures.passed c.if-not-pass.true

pub loop-turn-preserved : goal.loop-turn-preserved
loop-turn-preserved c =
    turn_more (table_of c.args.model.now) (model_lawful c.args.model.now) c.loop-turn.kept.flags.items c.pass.new.kept.flags.items c.pass.result
    c.loop-turn._turn c.loop-turn.invariant c.pass.ensures.passed

pub returns-clause-kept : goal.returns-clause-kept
returns-clause-kept c =
    let T : Table = table_of c.args.model.now in
    let e : c.loop-turn._turn ≡ sum_n T.states T.choices = omega (arith, c.count_choices-turn-end.ensures) in
    turn_all T (model_lawful c.args.model.now) c.loop-turn.kept.flags.items (rw e at c.loop-turn.invariant)
