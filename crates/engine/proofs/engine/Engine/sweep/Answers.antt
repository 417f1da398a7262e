use Rattle.std.proofs.Common.{◌≡◌, None, Option, sym, ap, ◌∙◌}
use Rattle.history.specs.Calls.{State, loaded, sweeping, next}
use Rattle.history.specs.Answers.{answer}
use Rattle.book.specs.Desks.{desk_table, desk_book}
use Rattle.table.specs.declared.fault.Fault.{Fault}
use Rattle.engine.specs.States.{held_state, state_of}
use Rattle.engine.proofs.Refusals.{idle_refuses, sweeps_refuses, stands_open}
use Rattle.engine.proofs.Accepted.{sweep_answer, sweep_next}
use Rattle.engine.proofs.engine.Engine.sweep.Goals as goal

pub returns-in_default : goal.returns-in_default
returns-in_default c =
    let r = idle_refuses (state_of c.args.self.now) c.in_default.field-0 c.in_default.ensures (sweeping c.args.count) tt in
    record { answer = r.answer; holds = r.holds }

pub returns-then-not-counts : goal.returns-then-not-counts
returns-then-not-counts c =
    let r = sweeps_refuses c.in-Ok.field-0-0 c.in-Ok.field-0-1 (state_of c.args.self.now) c.in-Ok.ensures c.args.count (sym c.if-not-counts.ensures) in
    record { answer = r.answer; holds = r.holds }

pub returns : goal.returns
returns c =
    let d = c.args.self.now.desk in
    let T = desk_table d in
    let B = desk_book d in
    let opened : c.args.self.now.idle ≡ None = stands_open c.in-Ok.field-0-0 c.in-Ok.field-0-1 c.args.self.now.idle d c.in-Ok.ensures in
    let here : state_of c.args.self.now ≡ loaded T B = ap (λ (o : Option Fault). held_state o d) opened in
    let e = sym c.if-not-counts.ensures in
    record {
      answer = sweep_answer T B c.args.count c.sweep.result e c.sweep.ensures.made ∙ ap (λ (S : State). answer S (sweeping c.args.count)) (sym here);
      holds = ap (λ (o : Option Fault). held_state o c.sweep.new.self) opened ∙ sweep_next T B (desk_table c.sweep.new.self) (desk_book c.sweep.new.self) c.args.count e c.sweep.ensures.table c.sweep.ensures.book
          ∙ ap (λ (S : State). next S (sweeping c.args.count)) (sym here);
    }
