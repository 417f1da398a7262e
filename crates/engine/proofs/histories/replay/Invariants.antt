use Rattle.engine.specs.States.{state_of}
use Rattle.engine.proofs.Replays.{SoFar}
use Rattle.engine.proofs.histories.replay.Given as goal

abbrev pub invariant-loop-one : goal.invariant-loop-one
invariant-loop-one g l = SoFar g.S.Source.table (g.S.Source.table l.initial.source) l.initial.asked l.asked l.one-index (state_of l.engine)
