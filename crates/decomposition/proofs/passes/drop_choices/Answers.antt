use Rattle.std.proofs.Common.{arith}
use Rattle.model.proofs.Unbroken.{model_lawful}
use Rattle.decomposition.proofs.Drops.{all_more}
use Rattle.decomposition.proofs.passes.drop_choices.Goals as goal

pub loop-state-preserved : goal.loop-state-preserved
loop-state-preserved c =
    all_more (model_lawful c.args.model.now) (omega (arith, c.states-state-end.ensures.value)) c.loop-state.invariant c.drop_state-changed.ensures
