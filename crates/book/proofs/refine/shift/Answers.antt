use Rattle.std.proofs.Common.{◌≡◌, ℕ, ◌<◌, true, false, List, length, get_or, ℤ, pos, ◌-ℤ◌, sym, ◌∙◌, ⊎_elim, arith, w64, SFits, rules}
use Rattle.std.proofs.lemmas.Int.{ints, to_z-of_z}
use Rattle.std.proofs.lemmas.Bool.{cases_Bool, cond-true, cond-false}
use Rattle.table.specs.Table.{Table}
use Rattle.components.specs.Nodes.{states_of}
use Rattle.book.specs.Layouts.{layout_table}
use Rattle.book.proofs.Layouts.{law}
use Rattle.book.proofs.Members.{member_of, Written, written_more, written_all}
use Rattle.book.proofs.StepExtremes.{to_state, to_node, not_node}
use Rattle.book.proofs.refine.shift.Goals as goal

pub bounds-halfway-state : goal.bounds-halfway-state
bounds-halfway-state c =
    let m = member_of (layout_table c.args.layout.now) c.home_of-node.result c.members_of-members.result.now c.members_of-members.ensures c.loop-state.state-index (omega arith) in
    omega (arith, m.0, c.requires.size.1)

pub overflow_sub-vector : goal.overflow_sub-vector
overflow_sub-vector c =
    let T : Table = layout_table c.args.layout.now in
    let L = law c.args.layout.now in
    let k : ℕ = c.args.component in
    let v : ℕ = c.home_of-node.result in
    let s : ℕ = get_or c.members_of-members.result.now c.loop-state.state-index 0 in
    let m = member_of T v c.members_of-members.result.now c.members_of-members.ensures c.loop-state.state-index (omega arith) in
    let e = to_state T L k v c.home_of-node.ensures.node c.home_of-node.ensures.home s m.0 m.1 in
    let a = c.requires.above s m.0 e in
    let b = c.requires.near s m.0 e in
    let fl : SFits w64 c.args.least = search rules in
    let fh : SFits w64 (get_or c.args.halfway.now s (pos 0)) = search rules in
    simp to_z-of_z (omega (arith, ints))

pub bounds-vector-state : goal.bounds-vector-state
bounds-vector-state c =
    let m = member_of (layout_table c.args.layout.now) c.home_of-node.result c.members_of-members.result.now c.members_of-members.ensures c.loop-state.state-index (omega arith) in
    omega (arith, m.0, c.requires.size.0, c.loop-state.auto.vector)

pub loop-state-preserved : goal.loop-state-preserved
loop-state-preserved c =
    let T : Table = layout_table c.args.layout.now in
    let L = law c.args.layout.now in
    let k : ℕ = c.args.component in
    let v : ℕ = c.home_of-node.result in
    let ms : List ℕ = c.members_of-members.result.now in
    let i : ℕ = c.loop-state.state-index in
    let s : ℕ = get_or ms i 0 in
    let m = member_of T v ms c.members_of-members.ensures i (omega arith) in
    let l : s < length c.loop-state.vector = omega (arith, m.0, c.requires.size.0, c.loop-state.auto.vector) in
    let e = to_state T L k v c.home_of-node.ensures.node c.home_of-node.ensures.home s m.0 m.1 in
    let a = c.requires.above s m.0 e in
    let b = c.requires.near s m.0 e in
    let fl : SFits w64 c.args.least = search rules in
    let fh : SFits w64 (get_or c.args.halfway.now s (pos 0)) = search rules in
    let fd : SFits w64 (get_or c.args.halfway.now s (pos 0) -ℤ c.args.least) = omega (arith, ints) in
    let new : ℕ → ℤ = λ s. get_or c.args.halfway.now s (pos 0) -ℤ c.args.least in
    let w : Written T v ms (pos 0) (λ s. get_or c.args.halfway.now s (pos 0) -ℤ c.args.least) i c.args.vector.now c.loop-state.vector = simp to_z-of_z at c.loop-state.invariant in
    simp to_z-of_z (written_more T v ms (pos 0) new i c.args.vector.now c.loop-state.vector m.1 l w)

pub returns : goal.returns
returns c =
    let T : Table = layout_table c.args.layout.now in
    let L = law c.args.layout.now in
    let k : ℕ = c.args.component in
    let v : ℕ = c.home_of-node.result in
    let known = c.home_of-node.ensures.node in
    let home = c.home_of-node.ensures.home in
    let ms : List ℕ = c.members_of-members.result.now in
    let new : ℕ → ℤ = λ s. get_or c.args.halfway.now s (pos 0) -ℤ c.args.least in
    let old : ℕ → ℤ = λ s. get_or c.args.vector.now s (pos 0) in
    let fl : SFits w64 c.args.least = search rules in
    let w : Written T v ms (pos 0) (λ s. get_or c.args.halfway.now s (pos 0) -ℤ c.args.least) c.loop-state.state-index c.args.vector.now c.loop-state.vector = simp to_z-of_z at c.loop-state.invariant in
    λ s h. ⊎_elim
    (λ (e : states_of T k s ≡ true).
    written_all T v ms (pos 0) new c.loop-state.state-index c.args.vector.now c.loop-state.vector
    c.members_of-members.ensures (omega arith) w s h (to_node T L k v known home s h e)
    ∙ sym (cond-true (states_of T k s) (new s) (old s) e))
    (λ (e : states_of T k s ≡ false).
    w.1 s (not_node T L k v known home s h e)
    ∙ sym (cond-false (states_of T k s) (new s) (old s) e))
    (cases_Bool (states_of T k s))
