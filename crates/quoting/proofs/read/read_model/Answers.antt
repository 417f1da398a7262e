use Rattle.std.proofs.Common.{length, Err, Result, sym, ap, ◌∙◌}
use Rattle.std.proofs.lemmas.Result.{err_from_is_err_and}
use Rattle.modelfile.specs.File.{Model}
use Rattle.modelfile.specs.Lists.{model_states, model_choices, model_branches, outcome}
use Rattle.modelfile.specs.declared.fault.FileFault.{FileFault}
use Rattle.modelfile.specs.declared.loaded.Loaded.{Loaded}
use Rattle.quoting.specs.Models.{table_in, table_read}
use Rattle.quoting.proofs.Models.{accepted, refused, front, fitting, same_table}
use Rattle.quoting.proofs.read.read_model.Goals as goal

pub returns-in_err-used : goal.returns-in_err-used
returns-in_err-used c =
    let o : Result Model FileFault = outcome c.args.file.now (length c.args.states.now) (length c.args.choices.now) (length c.args.branches.now) in
    let p = err_from_is_err_and c.from_residual.result c.from_residual.ensures.1 in
    let e = refused o c.in_err-used.field-0.0 c.in_err-used.ensures.answer in
    ap table_in (p.1 ∙ ap Err p.2) ∙ sym (ap table_read e)

pub slice_bounds-new-end : goal.slice_bounds-new-end
slice_bounds-new-end c =
    let h = c.in_ok-used.ensures in
    let m = accepted _ c.in_ok-used.used h.answer in
    fitting model_states _ m.0 _ _ _ m.1 h.states (ap (λ (u : Loaded). u.states) m.2)

pub slice_bounds-new-end-2 : goal.slice_bounds-new-end-2
slice_bounds-new-end-2 c =
    let h = c.in_ok-used.ensures in
    let m = accepted _ c.in_ok-used.used h.answer in
    fitting model_choices _ m.0 _ _ _ m.1 h.choices (ap (λ (u : Loaded). u.choices) m.2)

pub slice_bounds-new-end-3 : goal.slice_bounds-new-end-3
slice_bounds-new-end-3 c =
    let h = c.in_ok-used.ensures in
    let m = accepted _ c.in_ok-used.used h.answer in
    fitting model_branches _ m.0 _ _ _ m.1 h.branches (ap (λ (u : Loaded). u.branches) m.2)

pub returns : goal.returns
returns c =
    let h = c.in_ok-used.ensures in
    let m = accepted _ c.in_ok-used.used h.answer in
    same_table c.new.result m.0 _ m.1
    (c.new.ensures.denominator ∙ ap (λ (u : Loaded). u.denominator) m.2)
    (c.new.ensures.states ∙ front model_states _ m.0 _ _ _ m.1 h.states (ap (λ (u : Loaded). u.states) m.2))
    (c.new.ensures.choices ∙ front model_choices _ m.0 _ _ _ m.1 h.choices (ap (λ (u : Loaded). u.choices) m.2))
    (c.new.ensures.branches ∙ front model_branches _ m.0 _ _ _ m.1 h.branches (ap (λ (u : Loaded). u.branches) m.2))
