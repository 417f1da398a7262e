use Rattle.std.proofs.Common.{arith}
use Rattle.std.proofs.lemmas.List.FromFn.{fill_by_all}
use Rattle.table.specs.Table.{Table}
use Rattle.book.specs.Layouts.{layout_table}
use Rattle.book.specs.Starts.{first_inside}
use Rattle.book.proofs.start.record_first.Goals as goal

pub returns : goal.returns
returns c =
    let T : Table = layout_table c.args.layout.now in
    let z = c.requires.size in
    fill_by_all (first_inside T) c.loop-state.recorded T.states 0 (omega arith) (λ k l. c.loop-state.invariant k (omega arith))
