use Rattle.std.proofs.Common.{ℕ, map, take, pos, Err, ap, ◌∙◌}
use Rattle.std.proofs.lemmas.Result.{err_from_is_err_and}
use Rattle.console.specs.Lines.{answer_line}
use Rattle.engine.specs.States.{state_of}
use Rattle.quoting.specs.Replies.{replied}
use Rattle.quoting.proofs.Answering.{plan_line}
use Rattle.quoting.proofs.answer.perform.Goals as goal

pub returns-in_ok-plan-in-Plan-clause-bytes : goal.returns-in_ok-plan-in-Plan-clause-bytes
returns-in_ok-plan-in-Plan-clause-bytes c = λ line.
    ap (λ (n : ℕ). answer_line 80 (map pos (take n c.plan.new.list))) c.states.ensures
    ∙ plan_line (state_of c.args.engine.now) line c.args.list.now c.args.command _ c.told-list c.in_ok-plan-in-Plan.ensures.answer c.in-Plan.is

pub returns-in_err-plan-in-Plan-clause-bytes : goal.returns-in_err-plan-in-Plan-clause-bytes
returns-in_err-plan-in-Plan-clause-bytes c = λ line.
    let p = err_from_is_err_and c.from_residual-in_err-plan-in-Plan.result c.from_residual-in_err-plan-in-Plan.ensures.1 in
    ap (replied line) (p.1 ∙ ap Err p.2)
    ∙ plan_line (state_of c.args.engine.now) line c.args.list.now c.args.command _ c.told-list c.in_err-plan-in-Plan.ensures.answer c.in-Plan.is
