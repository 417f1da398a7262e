use Rattle.decomposition.proofs.Drops.{state_more}
use Rattle.decomposition.proofs.passes.drop_state.Goals as goal

pub loop-choice-preserved : goal.loop-choice-preserved
loop-choice-preserved c = state_more c.loop-choice.invariant c.drop_choice-changed.ensures
