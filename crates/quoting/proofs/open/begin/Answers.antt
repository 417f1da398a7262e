use Rattle.engine.specs.States.{state_of}
use Rattle.quoting.proofs.Opening.{ends, goes}
use Rattle.quoting.proofs.open.begin.Goals as goal

pub returns-in-Ok-clause-engine : goal.returns-in-Ok-clause-engine
returns-in-Ok-clause-engine c = goes (state_of c.args.engine) _ c.in-Ok.ensures

pub returns-clause-engine : goal.returns-clause-engine
returns-clause-engine c = ends (state_of c.args.engine) _ c.in-Err.ensures
