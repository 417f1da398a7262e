use Rattle.std.proofs.Common.{ℕ, ◌<◌, List, length, get_or, sym, ◌∙◌, subst, arith}
use Rattle.std.proofs.lemmas.List.{drop-set-lt}
use Rattle.table.specs.Table.{Table}
use Rattle.book.specs.Layouts.{layout_table}
use Rattle.book.specs.Plays.{Ready, play_by}
use Rattle.book.proofs.Members.{member_of, written_more, written_all}
use Rattle.book.proofs.play.Marked.write_node.Goals as goal

pub played-requires : goal.played-requires
played-requires c =
    let m = member_of (layout_table c.args.self.now.layout.now) c.args.node c.members_of-members.result.now c.members_of-members.ensures c.loop-state.state-index (omega arith) in
    record {
      known = m.0;
      recorded = c.requires.recorded;
      ready = subst (λ (v : ℕ). Ready (layout_table c.args.self.now.layout.now) v c.args.exit c.args.self.now.distances.now) (sym m.1) c.requires.ready;
    }

pub bounds-list-state : goal.bounds-list-state
bounds-list-state c =
    let m = member_of (layout_table c.args.self.now.layout.now) c.args.node c.members_of-members.result.now c.members_of-members.ensures c.loop-state.state-index (omega arith) in
    omega (arith, m.0, c.requires.room, c.loop-state.auto.list)

pub loop-state-preserved : goal.loop-state-preserved
loop-state-preserved c =
    let T : Table = layout_table c.args.self.now.layout.now in
    let ms : List ℕ = c.members_of-members.result.now in
    let i : ℕ = c.loop-state.state-index in
    let s : ℕ = get_or ms i 0 in
    let g : ℕ → ℕ = play_by T c.args.recorded.now c.args.exit in
    let m = member_of T c.args.node ms c.members_of-members.ensures i (omega arith) in
    let l : s < length c.loop-state.list = omega (arith, m.0, c.requires.room, c.loop-state.auto.list) in
    rw c.played.ensures (
      written_more T c.args.node ms 0 g i c.args.list.now c.loop-state.list m.1 l c.loop-state.invariant.0,
      drop-set-lt T.states c.loop-state.list s (g s) m.0 ∙ c.loop-state.invariant.1,
    )

pub returns : goal.returns
returns c =
    let T : Table = layout_table c.args.self.now.layout.now in
    record {
      written = written_all T c.args.node c.members_of-members.result.now 0 (play_by T c.args.recorded.now c.args.exit)
          c.loop-state.state-index c.args.list.now c.loop-state.list c.members_of-members.ensures (omega arith) c.loop-state.invariant.0;
      others = λ s h n. c.loop-state.invariant.0.1 s n;
      rest = c.loop-state.invariant.1;
    }
