use Rattle.std.proofs.Common.{◌≡◌, ℕ, ◌^◌, ◌<◌, ◌≤◌, true, List, length, get_or, ℤ, pos, ◌-ℤ◌, neg_ℤ, ◌≤ℤ◌, Some, Option, ap, ◌∙◌, arith, w64, SFits}
use Rattle.std.proofs.lemmas.Int.{ints, to_z-of_z}
use Rattle.components.specs.Nodes.{in_component}
use Rattle.horizon.specs.Means.{Rounding, round_down, round_up}
use Rattle.rules.specs.Setting.{setting_of}
use Rattle.rules.specs.Refine.{worth, best, attains}
use Rattle.rules.specs.declared.exit.Candidate.{Candidate}
use Rattle.rules.proofs.Sides.{Side, upper_side, lower_side}
use Rattle.book.specs.Vectors.{vector_table, numbers}
use Rattle.table.specs.Table.{Table}
use Rattle.table.specs.Limits.{Lawful}
use Rattle.book.specs.Inside.{over_inside, vector_of, choice_or}
use Rattle.book.proofs.RunSums.{natural_is}
use Rattle.book.proofs.Insides.{by_choice, attaining}
use Rattle.book.proofs.Gains.{best_within, is_found, not_missing}
use Rattle.book.proofs.Layouts.{law}
use Rattle.book.proofs.Vectors.{numbers_small}
use Rattle.book.proofs.vector.Vector.gain_at.Goals as goal

-- what the search found on a side: the first choice that attains the best worth, and how large that can be
module _ (T : Table) (L : Lawful T) (v : List ℤ) (s : ℕ) (h : s < T.states) (m : in_component T s ≡ true)
    (small : (u : ℕ) → u < T.states → vector_of v u ≤ 2 ^ 46) (rounds : Rounding) (side : Side rounds) (o : Option Candidate) (a : Candidate)
    (searched : o ≡ over_inside T (worth (setting_of T) rounds (vector_of v) s) s (T.choices s)) (some : o ≡ Some a) where
  is_best : a ≡ by_choice s (attaining T (worth (setting_of T) rounds (vector_of v) s) s (T.choices s)) (best (setting_of T) rounds (vector_of v) s)
  is_best = is_found T L rounds side (vector_of v) small s m o a searched some

  value_is : a.value ≡ best (setting_of T) rounds (vector_of v) s
  value_is = ap (λ (x : Candidate). x.value) is_best

  within : (neg_ℤ (pos (2 ^ 40)) ≤ℤ a.value) × (a.value ≤ℤ pos (2 ^ 47))
  within =
      let w = best_within T L rounds side (vector_of v) small s h m in
      let e = value_is in
      (omega (arith, ints), omega (arith, ints))

pub gained-requires : goal.gained-requires
gained-requires c =
    let l : c.args.state < length c.args.self.now.numbers.now = (let q = c.args.self.now.size in let h = c.requires.state in omega arith) in
    let low = c.args.self.now.natural c.args.state l in
    let high = c.args.self.now.capped c.args.state l in
    let f : SFits w64 (get_or c.args.self.now.numbers.now c.args.state (pos 0)) = omega (arith, ints) in
    let f0 = vector_table c.args.self.now in
    let v = c.args.self.now.numbers.now in
    let small = numbers_small c.args.self.now in
    record {
      above = within f0 (law c.args.self.now.layout.now) v c.args.state c.requires.state c.requires.member small round_up upper_side
          c.best_inside-upper.result.0 c.in-Some.above c.best_inside-upper.ensures.upper c.in-Some.is;
      below = within f0 (law c.args.self.now.layout.now) v c.args.state c.requires.state c.requires.member small round_down lower_side
          c.best_inside-upper.result.1 c.in-Some-lower.below c.best_inside-upper.ensures.lower c.in-Some-lower.is;
      here = (simp to_z-of_z low, simp to_z-of_z high);
    }

pub unreachable-requires : goal.unreachable-requires
unreachable-requires c =
    not_missing (vector_table c.args.self.now) (law c.args.self.now.layout.now) round_up upper_side (numbers c.args.self.now)
    (numbers_small c.args.self.now)
    c.args.state c.requires.member c.best_inside-upper.result.0 c.best_inside-upper.ensures.upper c.in_default.is

pub returns : goal.returns
unfolding attains best
returns c =
    let f0 = vector_table c.args.self.now in
    let v = c.args.self.now.numbers.now in
    let small = numbers_small c.args.self.now in
    let a = within f0 (law c.args.self.now.layout.now) v c.args.state c.requires.state c.requires.member small round_up upper_side
    c.best_inside-upper.result.0 c.in-Some.above c.best_inside-upper.ensures.upper c.in-Some.is in
    let b = within f0 (law c.args.self.now.layout.now) v c.args.state c.requires.state c.requires.member small round_down lower_side
    c.best_inside-upper.result.1 c.in-Some-lower.below c.best_inside-upper.ensures.lower c.in-Some-lower.is in
    let chosen = is_best f0 (law c.args.self.now.layout.now) v c.args.state c.requires.state c.requires.member small round_down lower_side
    c.best_inside-upper.result.1 c.in-Some-lower.below c.best_inside-upper.ensures.lower c.in-Some-lower.is in
    let l : c.args.state < length c.args.self.now.numbers.now = (let q = c.args.self.now.size in let h = c.requires.state in omega arith) in
    let low = c.args.self.now.natural c.args.state l in
    let high = c.args.self.now.capped c.args.state l in
    let f : SFits w64 (get_or c.args.self.now.numbers.now c.args.state (pos 0)) = omega (arith, ints) in
    let n = natural_is (get_or c.args.self.now.numbers.now c.args.state (pos 0)) low in
    let u : c.gained.result.up ≡ c.in-Some.above.value -ℤ get_or c.args.self.now.numbers.now c.args.state (pos 0) = simp to_z-of_z at c.gained.ensures.up in
    let d : c.gained.result.down ≡ c.in-Some-lower.below.value -ℤ get_or c.args.self.now.numbers.now c.args.state (pos 0) = simp to_z-of_z at c.gained.ensures.down in
    let eu = value_is f0 (law c.args.self.now.layout.now) v c.args.state c.requires.state c.requires.member small round_up upper_side
    c.best_inside-upper.result.0 c.in-Some.above c.best_inside-upper.ensures.upper c.in-Some.is in
    let ed = ap (λ (x : Candidate). x.value) chosen in
    record {
      up = omega (arith, ints);
      down = omega (arith, ints);
      choice = c.gained.ensures.choice ∙ ap (λ (x : Candidate). choice_or x.exit 0) chosen;
      range = ((omega (arith, ints), omega (arith, ints)), (omega (arith, ints), omega (arith, ints)));
    }

pub unreachable-requires-in_default-lower : goal.unreachable-requires-in_default-lower
unreachable-requires-in_default-lower c =
    not_missing (vector_table c.args.self.now) (law c.args.self.now.layout.now) round_down lower_side (numbers c.args.self.now)
    (numbers_small c.args.self.now)
    c.args.state c.requires.member c.best_inside-upper.result.1 c.best_inside-upper.ensures.lower c.in_default-lower.is
