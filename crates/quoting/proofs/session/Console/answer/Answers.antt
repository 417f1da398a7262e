use Rattle.engine.specs.States.{state_of}
use Rattle.quoting.proofs.Answering.{performed}
use Rattle.quoting.proofs.session.Console.answer.Goals as goal

pub returns-in-Ok-clause-engine : goal.returns-in-Ok-clause-engine
returns-in-Ok-clause-engine c = performed (state_of c.args.self.now.engine) _ c.in-Some.command _ c.in-Some.ensures.reads c.perform.ensures.engine

pub returns-in-Err-clause-engine : goal.returns-in-Err-clause-engine
returns-in-Err-clause-engine c = performed (state_of c.args.self.now.engine) _ c.in-Some.command _ c.in-Some.ensures.reads c.perform.ensures.engine
