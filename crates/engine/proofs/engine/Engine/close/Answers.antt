use Rattle.std.proofs.Common.{◌≡◌, None, Option, sym, ap, ◌∙◌}
use Rattle.history.specs.Calls.{State, loaded, close, next}
use Rattle.history.specs.Answers.{answer}
use Rattle.book.specs.Desks.{desk_table, desk_book}
use Rattle.table.specs.declared.fault.Fault.{Fault}
use Rattle.engine.specs.States.{held_state, state_of}
use Rattle.engine.proofs.Refusals.{idle_refuses, stands_open}
use Rattle.engine.proofs.Accepted.{close_answer, close_next}
use Rattle.engine.proofs.engine.Engine.close.Goals as goal

pub returns-in_default : goal.returns-in_default
returns-in_default c =
    let r = idle_refuses (state_of c.args.self.now) c.in_default.field-0 c.in_default.ensures close tt in
    record { answer = r.answer; holds = r.holds }

pub returns : goal.returns
returns c =
    let d = c.args.self.now.desk in
    let T = desk_table d in
    let B = desk_book d in
    let opened : c.args.self.now.idle ≡ None = stands_open c.in-Ok.field-0-0 c.in-Ok.field-0-1 c.args.self.now.idle d c.in-Ok.ensures in
    let here : state_of c.args.self.now ≡ loaded T B = ap (λ (o : Option Fault). held_state o d) opened in
    record {
      answer = close_answer T B ∙ ap (λ (S : State). answer S close) (sym here);
      holds = ap (λ (o : Option Fault). held_state o c.close.new.self) opened ∙ close_next T B (desk_table c.close.new.self) (desk_book c.close.new.self) c.close.ensures.table c.close.ensures.book
          ∙ ap (λ (S : State). next S close) (sym here);
    }
