use Rattle.std.proofs.Common.{ℕ, List, Option, ap, ◌∙◌}
use Rattle.history.specs.Calls.{State}
use Rattle.quoting.proofs.Opening.{sized, begun, unbegun, opened_made}
use Rattle.quoting.proofs.session.Console.open.Goals as goal

pub returns-in-Ok : goal.returns-in-Ok
returns-in-Ok c =
    let file : List ℕ = c.args.file.now in
    let table = sized file _ _ _ _ (c.deref_mut.ensures.len ∙ c.args.room.states_long) (c.deref_mut-2.ensures.len ∙ c.args.room.choices_long)
    (c.deref_mut-3.ensures.len ∙ c.args.room.branches_long) c.in-Ok.ensures in
    opened_made file _ c.begin.result.1 _ (begun file _ _ table c.open.ensures.opens) c.begin.ensures.line c.begin.ensures.engine c.begin.ensures.count

pub returns : goal.returns
returns c =
    let file : List ℕ = c.args.file.now in
    let fault = sized file _ _ _ _ (c.deref_mut.ensures.len ∙ c.args.room.states_long) (c.deref_mut-2.ensures.len ∙ c.args.room.choices_long)
    (c.deref_mut-3.ensures.len ∙ c.args.room.branches_long) c.in-Err.ensures in
    let e = unbegun file c.in-Err.fault fault in
    record {
      line = c.refused_file.ensures ∙ ap (λ (x : List ℕ × Option State). x.0) e;
      engine = ap (λ (x : List ℕ × Option State). x.1) e;
      count = tt;
    }
