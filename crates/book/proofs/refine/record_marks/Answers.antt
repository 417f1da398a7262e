use Rattle.std.proofs.Common.{◌≡◌, ℕ, true, false, List, sym, ◌∙◌, ⊎_elim, arith}
use Rattle.std.proofs.lemmas.Bool.{cases_Bool, cond-true, cond-false}
use Rattle.table.specs.Table.{Table}
use Rattle.components.specs.Nodes.{states_of}
use Rattle.rules.specs.Choosing.{at}
use Rattle.book.specs.Layouts.{layout_table}
use Rattle.book.proofs.Layouts.{law}
use Rattle.book.proofs.Members.{member_of, written_more, written_all}
use Rattle.book.proofs.StepExtremes.{to_node, not_node}
use Rattle.book.proofs.refine.record_marks.Goals as goal

pub bounds-marks-state : goal.bounds-marks-state
bounds-marks-state c =
    let m = member_of (layout_table c.args.layout.now) c.home_of-node.result c.members_of-members.result.now c.members_of-members.ensures c.loop-state.state-index (omega arith) in
    omega (arith, m.0, c.requires.size.1)

pub bounds-recorded-state : goal.bounds-recorded-state
bounds-recorded-state c =
    let m = member_of (layout_table c.args.layout.now) c.home_of-node.result c.members_of-members.result.now c.members_of-members.ensures c.loop-state.state-index (omega arith) in
    omega (arith, m.0, c.requires.size.0, c.loop-state.auto.recorded)

pub loop-state-preserved : goal.loop-state-preserved
loop-state-preserved c =
    let T : Table = layout_table c.args.layout.now in
    let ms : List ℕ = c.members_of-members.result.now in
    let i : ℕ = c.loop-state.state-index in
    let m = member_of T c.home_of-node.result ms c.members_of-members.ensures i (omega arith) in
    written_more T c.home_of-node.result ms 0 (at c.args.marks.now) i c.args.recorded.now c.loop-state.recorded m.1
    (omega (arith, m.0, c.requires.size.0, c.loop-state.auto.recorded)) c.loop-state.invariant

pub returns : goal.returns
returns c =
    let T : Table = layout_table c.args.layout.now in
    let L = law c.args.layout.now in
    let k : ℕ = c.args.component in
    let v : ℕ = c.home_of-node.result in
    let known = c.home_of-node.ensures.node in
    let home = c.home_of-node.ensures.home in
    let new : ℕ → ℕ = at c.args.marks.now in
    let old : ℕ → ℕ = at c.args.recorded.now in
    λ s h. ⊎_elim
    (λ (e : states_of T k s ≡ true).
    written_all T v c.members_of-members.result.now 0 new c.loop-state.state-index c.args.recorded.now c.loop-state.recorded
    c.members_of-members.ensures (omega arith) c.loop-state.invariant s h (to_node T L k v known home s h e)
    ∙ sym (cond-true (states_of T k s) (new s) (old s) e))
    (λ (e : states_of T k s ≡ false).
    c.loop-state.invariant.1 s (not_node T L k v known home s h e)
    ∙ sym (cond-false (states_of T k s) (new s) (old s) e))
    (cases_Bool (states_of T k s))
