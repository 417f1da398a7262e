use Rattle.std.proofs.Common.{sym, ap, ◌∙◌, arith}
use Rattle.std.proofs.lemmas.List.{get_or_default}
use Rattle.sources.specs.Rows.{no_state}
use Rattle.sources.specs.declared.list.StateRow.{StateRow}
use Rattle.book.specs.Layouts.{state_rows}
use Rattle.book.proofs.Layouts.{states_are, count_is}
use Rattle.book.proofs.layout.Layout.choices.Goals as goal

pub returns : goal.returns
returns c =
    let l = c.args.self.now in
    let e = states_are l in
    let h = c.requires in
    ap (λ (x : StateRow). x.count) (c.index.ensures ∙ get_or_default (state_rows l) c.args.state c.index.result.now no_state (omega arith))
    ∙ sym (count_is l c.args.state c.requires)
