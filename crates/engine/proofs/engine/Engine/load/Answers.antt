use Rattle.std.proofs.Common.{Option, Result, sym, ap, ◌∙◌}
use Rattle.std.proofs.lemmas.Result.{err_from_is_err_and}
use Rattle.table.specs.Table.{Table}
use Rattle.book.specs.declared.desk.Desk.{Desk}
use Rattle.history.specs.Answers.{Answer, refused, done}
use Rattle.history.specs.declared.refusal.Refusal.{Refusal}
use Rattle.engine.specs.States.{held_state, state_of, answer_by}
use Rattle.engine.proofs.Accepted.{load_accepted, load_broken}
use Rattle.engine.proofs.engine.Engine.load.Goals as goal

pub returns-in_err-load : goal.returns-in_err-load
returns-in_err-load g c =
    let T : Table = g.S.Source.table c.args.source.now in
    let e = c.in_err-load.ensures in
    let p = err_from_is_err_and c.from_residual.result c.from_residual.ensures.1 in
    let l = load_broken T (state_of c.args.self.now) c.in_err-load.field-0.0 e.0 in
    record {
      answer = ap (λ (r : Result (Unit {0}) Refusal). answer_by (λ (x : Unit {0}). done) refused r) p.1 ∙ ap refused p.2 ∙ l.answer;
      holds = ap (λ (d : Desk). held_state c.args.self.now.idle d) e.1 ∙ l.holds;
    }

pub returns : goal.returns
returns g c =
    let l = load_accepted (g.S.Source.table c.args.source.now) (state_of c.args.self.now) c.load.new.self c.in_ok-load.ensures in
    record { answer = l.answer; holds = l.holds }
