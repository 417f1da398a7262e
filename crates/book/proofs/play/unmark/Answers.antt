use Rattle.std.proofs.Common.{ℕ, ◌<◌, None, length, get_or, arith}
use Rattle.table.specs.Table.{Table}
use Rattle.book.specs.Layouts.{layout_table}
use Rattle.book.proofs.Members.{member_of, written_more, written_all}
use Rattle.book.proofs.play.unmark.Goals as goal

pub bounds-distances-state : goal.bounds-distances-state
bounds-distances-state c =
    let m = member_of (layout_table c.args.layout.now) c.args.node c.members_of-members.result.now c.members_of-members.ensures c.loop-state.state-index (omega arith) in
    omega (arith, m.0, c.requires.room, c.loop-state.auto.distances)

pub loop-state-preserved : goal.loop-state-preserved
loop-state-preserved c =
    let T : Table = layout_table c.args.layout.now in
    let i : ℕ = c.loop-state.state-index in
    let m = member_of T c.args.node c.members_of-members.result.now c.members_of-members.ensures i (omega arith) in
    let l : get_or c.members_of-members.result.now i 0 < length c.loop-state.distances = omega (arith, m.0, c.requires.room, c.loop-state.auto.distances) in
    written_more T c.args.node c.members_of-members.result.now None (λ s. None) i c.args.distances.now c.loop-state.distances m.1 l c.loop-state.invariant

pub returns : goal.returns
returns c =
    written_all (layout_table c.args.layout.now) c.args.node c.members_of-members.result.now None (λ s. None)
    c.loop-state.state-index c.args.distances.now c.loop-state.distances c.members_of-members.ensures (omega arith) c.loop-state.invariant
