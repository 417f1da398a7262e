use Rattle.std.proofs.Common.{◌≡◌, ℕ, ◌+◌, ◌<◌, ◌≤◌, List, length, get_or, set, ℤ, pos, ◌+ℤ◌, nat_abs, sym, ap, ◌∙◌, subst, arith, w64, SFits, rules}
use Rattle.std.proofs.lemmas.Int.{ints, to_z-of_z}
use Rattle.table.specs.Table.{Table}
use Rattle.horizon.specs.Means.{round_down, round_up}
use Rattle.rules.specs.Refine.{gain, halfway, attains, largest_up, least_down}
use Rattle.rules.specs.Setting.{Setting, setting_of}
use Rattle.rules.proofs.Nodes.{of_component}
use Rattle.rules.proofs.Sides.{lower_side, upper_side}
use Rattle.book.specs.Vectors.{vector_table, numbers}
use Rattle.book.proofs.Halves.{gain_within, halfway_within}
use Rattle.book.proofs.Layouts.{law}
use Rattle.book.proofs.Members.{member_of, Written, written_more, written_all}
use Rattle.book.proofs.RunSums.{natural_is}
use Rattle.book.proofs.StepExtremes.{to_state, to_node, highest_more, lowest_more, highest_all, lowest_all}
use Rattle.book.proofs.Vectors.{numbers_small}
use Rattle.book.proofs.vector.Vector.survey.Goals as goal

pub gain_at-gain-requires : goal.gain_at-gain-requires
gain_at-gain-requires c =
    let T : Table = vector_table c.args.self.now in
    let L = law c.args.self.now.layout.now in
    let k : ℕ = c.args.component in
    let v : ℕ = c.home_of-node.result in
    let s : ℕ = get_or c.members_of-members.result.now c.loop-state.state-index 0 in
    let m = member_of T v c.members_of-members.result.now c.members_of-members.ensures c.loop-state.state-index (omega arith) in
    record {
      state = m.0;
      member = (of_component T L k s (to_state T L k v c.home_of-node.ensures.node c.home_of-node.ensures.home s m.0 m.1)).0;
    }

pub bounds-self-state : goal.bounds-self-state
bounds-self-state c =
    let m = member_of (vector_table c.args.self.now) c.home_of-node.result c.members_of-members.result.now c.members_of-members.ensures c.loop-state.state-index (omega arith) in
    omega (arith, m.0, c.args.self.now.size)

pub half_way-half-requires : goal.half_way-half-requires
half_way-half-requires c =
    let s : ℕ = get_or c.members_of-members.result.now c.loop-state.state-index 0 in
    let m = member_of (vector_table c.args.self.now) c.home_of-node.result c.members_of-members.result.now c.members_of-members.ensures c.loop-state.state-index (omega arith) in
    let l : s < length c.args.self.now.numbers.now = omega (arith, m.0, c.args.self.now.size) in
    let low = c.args.self.now.natural s l in
    let high = c.args.self.now.capped s l in
    let a = c.gain_at-gain.ensures.range.1.0 in
    let b = c.gain_at-gain.ensures.range.1.1 in
    let fv : SFits w64 (get_or c.args.self.now.numbers.now s (pos 0)) = omega (arith, ints) in
    let fd : SFits w64 c.gain_at-gain.result.down = omega (arith, ints) in
    record { here = (simp to_z-of_z low, simp to_z-of_z high); down = (simp to_z-of_z a, simp to_z-of_z b) }

pub bounds-halfway-state : goal.bounds-halfway-state
bounds-halfway-state c =
    let m = member_of (vector_table c.args.self.now) c.home_of-node.result c.members_of-members.result.now c.members_of-members.ensures c.loop-state.state-index (omega arith) in
    omega (arith, m.0, c.requires.room.0, c.loop-state.auto.halfway)

pub bounds-marks-state : goal.bounds-marks-state
bounds-marks-state c =
    let m = member_of (vector_table c.args.self.now) c.home_of-node.result c.members_of-members.result.now c.members_of-members.ensures c.loop-state.state-index (omega arith) in
    omega (arith, m.0, c.requires.room.1, c.loop-state.auto.marks)

module _ (c : goal.After-widened-found) where
  -- what half_way computes is the halfway number
  is_halfway : c.half_way-half.result ≡ halfway (setting_of (vector_table c.args.self.now)) (numbers c.args.self.now) (get_or c.members_of-members.result.now c.loop-state.state-index 0)
  unfolding halfway
  is_halfway =
      let s : ℕ = get_or c.members_of-members.result.now c.loop-state.state-index 0 in
      let v = c.args.self.now.numbers.now in
      let m = member_of (vector_table c.args.self.now) c.home_of-node.result c.members_of-members.result.now c.members_of-members.ensures c.loop-state.state-index (omega arith) in
      let l : s < length v = omega (arith, m.0, c.args.self.now.size) in
      let low = c.args.self.now.natural s l in
      let high = c.args.self.now.capped s l in
      let a = c.gain_at-gain.ensures.range.1.0 in
      let b = c.gain_at-gain.ensures.range.1.1 in
      let fv : SFits w64 (get_or v s (pos 0)) = omega (arith, ints) in
      let fd : SFits w64 c.gain_at-gain.result.down = omega (arith, ints) in
      let e : c.half_way-half.result ≡ get_or v s (pos 0) +ℤ round_down c.gain_at-gain.result.down 2 = simp to_z-of_z at c.half_way-half.ensures in
      e ∙ ap (λ (y : ℤ). y +ℤ round_down c.gain_at-gain.result.down 2) (natural_is (get_or v s (pos 0)) low)
      ∙ ap (λ (y : ℤ). pos (nat_abs (get_or v s (pos 0))) +ℤ round_down y 2) c.gain_at-gain.ensures.down

pub loop-state-preserved : goal.loop-state-preserved
loop-state-preserved c =
    let T : Table = vector_table c.args.self.now in
    let i : ℕ = c.loop-state.state-index in
    let v : ℕ = c.home_of-node.result in
    let ms : List ℕ = c.members_of-members.result.now in
    let M : Setting = setting_of T in
    let t : ℕ → ℕ = numbers c.args.self.now in
    let s : ℕ = get_or ms i 0 in
    let m = member_of T v ms c.members_of-members.ensures i (omega arith) in
    let lh : s < length c.loop-state.halfway = omega (arith, m.0, c.requires.room.0, c.loop-state.auto.halfway) in
    let lm : s < length c.loop-state.marks = omega (arith, m.0, c.requires.room.1, c.loop-state.auto.marks) in
    let half : ℤ = c.half_way-half.result in
    let e : half ≡ halfway M t s = is_halfway c in
    let fh : SFits w64 c.half_way-half.result = search rules in
    let old = c.loop-state.found in
    let new = c.widened-found.result in
    let w = c.widened-found.ensures in (
      highest_more (λ p. gain M round_up t (get_or ms p 0)) i old.up new.up c.gain_at-gain.result.up c.gain_at-gain.ensures.up c.loop-state.invariant.0 w.up,
      lowest_more (λ p. gain M round_down t (get_or ms p 0)) i old.down new.down c.gain_at-gain.result.down c.gain_at-gain.ensures.down c.loop-state.invariant.1 w.down,
      lowest_more (λ p. halfway M t (get_or ms p 0)) i old.least new.least half e c.loop-state.invariant.2 (simp to_z-of_z at w.least),
      highest_more (λ p. halfway M t (get_or ms p 0)) i old.largest new.largest half e c.loop-state.invariant.3 (simp to_z-of_z at w.largest),
      simp to_z-of_z (subst (λ (y : ℤ). Written T v ms (pos 0) (halfway M t) (i + 1) c.args.halfway.now (set c.loop-state.halfway s y)) (sym e)
          (written_more T v ms (pos 0) (halfway M t) i c.args.halfway.now c.loop-state.halfway m.1 lh c.loop-state.invariant.4)),
      subst (λ (y : ℕ). Written T v ms 0 (attains M t) (i + 1) c.args.marks.now (set c.loop-state.marks s y)) (sym c.gain_at-gain.ensures.choice)
          (written_more T v ms 0 (attains M t) i c.args.marks.now c.loop-state.marks m.1 lm c.loop-state.invariant.5),
    )

pub returns : goal.returns
unfolding largest_up least_down
returns c =
    let T : Table = vector_table c.args.self.now in
    let L = law c.args.self.now.layout.now in
    let k : ℕ = c.args.component in
    let known = c.home_of-node.ensures.node in
    let home = c.home_of-node.ensures.home in
    let i : ℕ = c.loop-state.state-index in
    let v : ℕ = c.home_of-node.result in
    let ms : List ℕ = c.members_of-members.result.now in
    let all = c.members_of-members.ensures in
    let M : Setting = setting_of T in
    let t : ℕ → ℕ = numbers c.args.self.now in
    let small = numbers_small c.args.self.now in
    let end : i ≡ length ms = omega arith in
    let low : length ms ≤ i = omega arith in
    record {
      up = highest_all T L k v known home c.requires.component ms all (gain M round_up t) c.loop-state.found.up
          (λ s h e. gain_within T L t small s h (of_component T L k s e).0 round_up upper_side) i end c.loop-state.invariant.0;
      down = lowest_all T L k v known home c.requires.component ms all (gain M round_down t) c.loop-state.found.down
          (λ s h e. gain_within T L t small s h (of_component T L k s e).0 round_down lower_side) i end c.loop-state.invariant.1;
      least = lowest_all T L k v known home c.requires.component ms all (halfway M t) c.loop-state.found.least
          (λ s h e. halfway_within T L t small s h (of_component T L k s e).0) i end c.loop-state.invariant.2;
      largest = highest_all T L k v known home c.requires.component ms all (halfway M t) c.loop-state.found.largest
          (λ s h e. halfway_within T L t small s h (of_component T L k s e).0) i end c.loop-state.invariant.3;
      halfway = λ s h e. written_all T v ms (pos 0) (halfway M t) i c.args.halfway.now c.loop-state.halfway all low c.loop-state.invariant.4 s h (to_node T L k v known home s h e);
      marks = λ s h e. written_all T v ms 0 (attains M t) i c.args.marks.now c.loop-state.marks all low c.loop-state.invariant.5 s h (to_node T L k v known home s h e);
    }
