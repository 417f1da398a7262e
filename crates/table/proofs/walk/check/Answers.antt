use Rattle.std.proofs.Common.{◌≡◌, true, ◌∷◌, sym, ◌∙◌, rules, arith}
use Rattle.std.proofs.lemmas.Result.{err_from_is_err_and}
use Rattle.table.specs.Table.{Table}
use Rattle.table.specs.Faults.{kept}
use Rattle.table.specs.Walk.{each, state_walk}
use Rattle.table.specs.declared.fault.Fault.TheVariants.{States, Denominator}
use Rattle.table.proofs.Walks.{checked_past, ok_more, err_at}
use Rattle.table.proofs.walk.check.Goals as goal

pub loop-state-preserved : goal.loop-state-preserved
loop-state-preserved g c =
    let T : Table = g.S.Source.table c.args.source.now in
    ok_more T (state_walk T) c.loop-state.state c.loop-state.invariant (sym c.in_ok-check_state.ensures)

pub returns-in_err-check_state-clause-decides : goal.returns-in_err-check_state-clause-decides
returns-in_err-check_state-clause-decides g c =
    let T : Table = g.S.Source.table c.args.source.now in
    let p = err_from_is_err_and c.from_residual.result c.from_residual.ensures.1 in
    let states : kept T States ≡ true = search rules in
    let denominator : kept T Denominator ≡ true = search rules in
    let found = err_at T (state_walk T) c.loop-state.state T.states c.in_err-check_state.field-0.0 (omega arith) c.loop-state.invariant (sym c.in_err-check_state.ensures) in
    rw (p.1, p.2) (sym (checked_past T States (Denominator ∷ each T.states (state_walk T)) states ∙ checked_past T Denominator (each T.states (state_walk T)) denominator ∙ found))
