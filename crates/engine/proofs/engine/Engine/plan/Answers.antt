use Rattle.std.proofs.Common.{◌≡◌, ◌≤◌, length, None, Option, sym, ap, ◌∙◌, arith}
use Rattle.history.specs.Calls.{State, loaded, plan}
use Rattle.history.specs.Answers.{Answer, planned, answer}
use Rattle.book.specs.Desks.{desk_table, desk_book}
use Rattle.table.specs.declared.fault.Fault.{Fault}
use Rattle.engine.specs.States.{held_state, state_of, list_after}
use Rattle.engine.proofs.Refusals.{idle_refuses, room_refuses, states_stand, stands_open}
use Rattle.engine.proofs.Accepted.{plan-answer}
use Rattle.engine.proofs.engine.Engine.plan.Goals as goal

pub returns-in_default : goal.returns-in_default
returns-in_default c =
    let list = c.args.list.now in
    let r = idle_refuses (state_of c.args.self.now) c.in_default.field-0 c.in_default.ensures (plan list) tt in
    record { answer = r.answer; list = ap (λ (a : Answer). list_after a list) r.answer }

pub returns-then-list-states : goal.returns-then-list-states
returns-then-list-states c =
    let list = c.args.list.now in
    let r = room_refuses c.in-Ok.states c.in-Ok.field-0-1 (state_of c.args.self.now) c.in-Ok.ensures list c.if-list-states.true in
    record { answer = r.answer; list = ap (λ (a : Answer). list_after a list) r.answer }

pub returns : goal.returns
returns c =
    let d = c.args.self.now.desk in
    let T = desk_table d in
    let B = desk_book d in
    let list = c.args.list.now in
    let opened : c.args.self.now.idle ≡ None = stands_open c.in-Ok.states c.in-Ok.field-0-1 c.args.self.now.idle d c.in-Ok.ensures in
    let here : state_of c.args.self.now ≡ loaded T B = ap (λ (o : Option Fault). held_state o d) opened in
    let n = states_stand c.in-Ok.states c.in-Ok.field-0-1 (state_of c.args.self.now) T B c.in-Ok.ensures here in
    let h : T.states ≤ length list = omega (arith, n, c.if-list-states.false) in
    let a : planned c.plan.new.list ≡ answer (state_of c.args.self.now) (plan list) =
    plan-answer T B list c.plan.new.list h c.plan.ensures ∙ ap (λ (S : State). answer S (plan list)) (sym here) in
    record {
      answer = a;
      list = ap (λ (a : Answer). list_after a list) a;
    }
