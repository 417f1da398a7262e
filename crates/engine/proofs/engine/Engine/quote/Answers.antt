use Rattle.std.proofs.Common.{◌≡◌, ◌<◌, pos, ◌-ℤ◌, None, Option, sym, ap, ◌∙◌, arith, w64, SFits, rules}
use lib.Signed.{le_z}
use Rattle.std.proofs.lemmas.Int.{to_z-of_z}
use Rattle.history.specs.Calls.{State, loaded, quote}
use Rattle.history.specs.Answers.{answer}
use Rattle.book.specs.Desks.{desk_table, desk_book}
use Rattle.table.specs.declared.fault.Fault.{Fault}
use Rattle.engine.specs.States.{held_state, state_of}
use Rattle.engine.proofs.Refusals.{idle_refuses, state_refuses, stands_open, states_stand}
use Rattle.engine.proofs.Accepted.{quote-answer}
use Rattle.engine.proofs.engine.Engine.quote.Goals as goal

pub returns-in_default : goal.returns-in_default
returns-in_default c =
    (idle_refuses (state_of c.args.self.now) c.in_default.field-0 c.in_default.ensures (quote c.args.state c.args.width) tt).answer

pub returns-then-state-states : goal.returns-then-state-states
returns-then-state-states c =
    (state_refuses c.in-Ok.states c.in-Ok.field-0-1 (state_of c.args.self.now) c.in-Ok.ensures c.args.state c.args.width c.if-state-states.true).answer

pub returns : goal.returns
returns c =
    let d = c.args.self.now.desk in
    let T = desk_table d in
    let B = desk_book d in
    let opened : c.args.self.now.idle ≡ None = stands_open c.in-Ok.states c.in-Ok.field-0-1 c.args.self.now.idle d c.in-Ok.ensures in
    let here : state_of c.args.self.now ≡ loaded T B = ap (λ (o : Option Fault). held_state o d) opened in
    let n = states_stand c.in-Ok.states c.in-Ok.field-0-1 (state_of c.args.self.now) T B c.in-Ok.ensures here in
    let h : c.args.state < T.states = omega (arith, n, c.if-state-states.false) in
    let fl : SFits w64 c.quote-lower.result.0 = search rules in
    let fu : SFits w64 c.quote-lower.result.1 = search rules in
    let m : c.mark.result ≡ le_z (c.quote-lower.result.1 -ℤ c.quote-lower.result.0) (pos c.args.width) = simp to_z-of_z at c.mark.ensures in
    let a = quote-answer T B c.args.state c.args.width c.mark.result c.quote-lower.result h c.quote-lower.ensures.bounds m
    ∙ ap (λ (S : State). answer S (quote c.args.state c.args.width)) (sym here) in
    simp to_z-of_z a
