use Rattle.std.proofs.Common.{Option, sym, ap, ◌∙◌}
use Rattle.history.specs.Calls.{State, standing}
use Rattle.history.specs.Answers.{answer}
use Rattle.table.specs.declared.fault.Fault.{Fault}
use Rattle.book.specs.Desks.{desk_table, desk_book}
use Rattle.engine.specs.States.{held_state, state_of}
use Rattle.engine.proofs.Refusals.{idle_standing}
use Rattle.engine.proofs.Accepted.{standing_answer}
use Rattle.engine.proofs.engine.Engine.standing.Goals as goal

pub returns-in-Some : goal.returns-in-Some
returns-in-Some c =
    idle_standing (state_of c.args.self.now) c.in-Some.fault (ap (λ (o : Option Fault). held_state o c.args.self.now.desk) c.in-Some.is)

pub returns-in-None : goal.returns-in-None
returns-in-None c =
    let d = c.args.self.now.desk in
    standing_answer (desk_table d) (desk_book d) c.states.result c.components.result c.states.ensures c.components.ensures
    ∙ ap (λ (S : State). answer S standing) (sym (ap (λ (o : Option Fault). held_state o d) c.in-None.is))
