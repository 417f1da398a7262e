use Rattle.std.proofs.Common.{◌≡◌, ◌<◌, None, Option, sym, ap, ◌∙◌, arith, w64, SFits, rules}
use Rattle.history.specs.Calls.{State, loaded, refines, next}
use Rattle.history.specs.Answers.{answer}
use Rattle.book.specs.Desks.{desk_table, desk_book}
use Rattle.table.specs.declared.fault.Fault.{Fault}
use Rattle.engine.specs.States.{held_state, state_of}
use Rattle.std.proofs.lemmas.Int.{to_z-of_z}
use Rattle.components.specs.Nodes.{components}
use Rattle.engine.proofs.Refusals.{idle_refuses, component_refuses, steps_refuses, components_stand, stands_open}
use Rattle.engine.proofs.Accepted.{refine-answer, refine_next}
use Rattle.engine.proofs.engine.Engine.refine.Goals as goal

pub returns-in_default : goal.returns-in_default
returns-in_default c =
    let r = idle_refuses (state_of c.args.self.now) c.in_default.field-0 c.in_default.ensures (refines c.args.component c.args.steps c.args.width) tt in
    record { answer = r.answer; holds = r.holds }

pub returns-then-component-components : goal.returns-then-component-components
returns-then-component-components c =
    let r = component_refuses c.in-Ok.field-0-0 c.in-Ok.components (state_of c.args.self.now) c.in-Ok.ensures
    c.args.component c.args.steps c.args.width c.if-component-components.true in
    record { answer = r.answer; holds = r.holds }

pub returns-then-not-counts : goal.returns-then-not-counts
returns-then-not-counts c =
    let r = steps_refuses c.in-Ok.field-0-0 c.in-Ok.components (state_of c.args.self.now) c.in-Ok.ensures
    c.args.component c.args.steps c.args.width c.if-component-components.false (sym c.if-not-counts.ensures) in
    record { answer = r.answer; holds = r.holds }

pub returns : goal.returns
returns c =
    let d = c.args.self.now.desk in
    let T = desk_table d in
    let B = desk_book d in
    let A = desk_book c.refine-made.new.self in
    let opened : c.args.self.now.idle ≡ None = stands_open c.in-Ok.field-0-0 c.in-Ok.components c.args.self.now.idle d c.in-Ok.ensures in
    let here : state_of c.args.self.now ≡ loaded T B = ap (λ (o : Option Fault). held_state o d) opened in
    let k = components_stand c.in-Ok.field-0-0 c.in-Ok.components (state_of c.args.self.now) T B c.in-Ok.ensures here in
    let h : c.args.component < components T = omega (arith, k, c.if-component-components.false) in
    let e = sym c.if-not-counts.ensures in
    let fl : SFits w64 c.bounds-lo.result.0 = search rules in
    let fh : SFits w64 c.bounds-lo.result.1 = search rules in
    let a = refine-answer T B A c.args.component c.args.steps c.args.width c.refine-made.result c.bounds-lo.result.0 c.bounds-lo.result.1 h e
    c.refine-made.ensures.made c.refine-made.ensures.book c.bounds-lo.ensures.lo c.bounds-lo.ensures.hi in
    let a' = a ∙ ap (λ (S : State). answer S (refines c.args.component c.args.steps c.args.width)) (sym here) in
    let n = refine_next T B (desk_table c.refine-made.new.self) A c.args.component c.args.steps c.args.width h e c.refine-made.ensures.table c.refine-made.ensures.book in
    record {
      answer = simp to_z-of_z a';
      holds = ap (λ (o : Option Fault). held_state o c.refine-made.new.self) opened ∙ n ∙ ap (λ (S : State). next S (refines c.args.component c.args.steps c.args.width)) (sym here);
    }
