use Rattle.std.proofs.Common.{◌≡◌, ℕ, ◌<◌, length, get_or, ℤ, pos, ◌+ℤ◌, ◌*ℤ◌, ap, ◌∙◌, arith, w32, w64, SFits, rules}
use Rattle.std.proofs.lemmas.Int.{ints, to_z-of_z}
use Rattle.table.specs.Table.{Table, successor, weight}
use Rattle.table.specs.Limits.{Lawful}
use Rattle.horizon.specs.Means.{round_down, round_up}
use Rattle.horizon.specs.Sums.{branch_sum_z}
use Rattle.horizon.specs.SumsLemmas.{weighted_z_cong}
use Rattle.book.specs.Layouts.{denominator_of, layout_table}
use Rattle.book.specs.Inside.{vector_of}
use Rattle.book.specs.Vectors.{vector_table, numbers}
use Rattle.book.specs.Bounded.{Bounded}
use Rattle.book.proofs.RunSums.{natural_is}
use Rattle.book.proofs.Layouts.{law}
use Rattle.book.proofs.Runs.{run_within, run_light, run_total}
use Rattle.book.proofs.vector.Vector.worths.Goals as goal

pub total-sum-requires : goal.total-sum-requires
total-sum-requires c =
    let v = c.args.self.now in
    let T : Table = vector_table v in
    let L = law v.layout.now in
    let run = c.branches_of.result.now in
    record {
      inside = run_within T L c.args.state c.args.choice c.requires.state c.requires.choice (λ u. u) run c.branches_of.ensures.size c.branches_of.ensures.at
          (length v.numbers.now) (λ u l. let q = v.size in omega arith);
      light = run_light T L c.args.state c.args.choice c.requires.state c.requires.choice (λ u. u) run c.branches_of.ensures.size c.branches_of.ensures.at;
      small = λ i l. ((let n = v.natural i l in omega (arith, ints)), v.capped i l);
    }

-- the reward of a choice is within its limits
reward_within : (T : Table) → Lawful T → (s k : ℕ) → s < T.states → k < T.choices s → (r : ℤ) → r ≡ T.reward s k → Bounded 1000000 r
reward_within T L s k h l r e = let w = L.rewards s k h l in let a = w.0 in let b = w.1 in (omega (arith, ints), omega (arith, ints))

-- the sum is that of the vector after the choice
sum : (c : goal.After-worth-lower) → c.total-sum.result ≡ branch_sum_z (vector_table c.args.self.now) c.args.state c.args.choice (λ u. pos (numbers c.args.self.now u))
sum c =
    let f = c.args.self.now.layout.now in
    let T : Table = layout_table f in
    let s : ℕ = c.args.state in
    let k : ℕ = c.args.choice in
    let v = c.args.self.now.numbers.now in
    c.total-sum.ensures.value
    ∙ run_total T (law f) s k c.requires.state c.requires.choice (λ u. u) c.branches_of.result.now c.branches_of.ensures.size c.branches_of.ensures.at v
    ∙ weighted_z_cong (T.branches s k) (weight T s k) (λ b. get_or v (successor T s k b) (pos 0)) (λ b. pos (vector_of v (successor T s k b)))
    (λ b l. natural_is (get_or v (successor T s k b) (pos 0))
    (c.args.self.now.natural (successor T s k b)
    (let q = c.args.self.now.size in let m = (law f).successors s k b c.requires.state c.requires.choice l in omega arith)))

pub returns : goal.returns
returns c =
    let f = c.args.self.now.layout.now in
    let W : ℕ = denominator_of f in
    let r = c.reward-reward.result in
    let fr : SFits w32 r = search rules in
    let fs : SFits w64 c.total-sum.result = search rules in
    let fu : SFits w64 c.worth-upper.result = search rules in
    let fl : SFits w64 c.worth-lower.result = search rules in
    let q = sum c in
    let up : c.worth-upper.result ≡ (pos 1048576 *ℤ r) +ℤ round_up c.total-sum.result W = simp to_z-of_z at c.worth-upper.ensures in
    let low : c.worth-lower.result ≡ (pos 1048576 *ℤ r) +ℤ round_down c.total-sum.result W = simp to_z-of_z at c.worth-lower.ensures in
    record {
      upper = simp to_z-of_z (up ∙ ap (λ (z : ℤ). (pos 1048576 *ℤ z) +ℤ round_up c.total-sum.result W) c.reward-reward.ensures ∙ ap (λ (z : ℤ). (pos 1048576 *ℤ (layout_table f).reward c.args.state c.args.choice) +ℤ round_up z W) q);
      lower = simp to_z-of_z (low ∙ ap (λ (z : ℤ). (pos 1048576 *ℤ z) +ℤ round_down c.total-sum.result W) c.reward-reward.ensures ∙ ap (λ (z : ℤ). (pos 1048576 *ℤ (layout_table f).reward c.args.state c.args.choice) +ℤ round_down z W) q);
    }

pub worth-upper-requires : goal.worth-upper-requires
worth-upper-requires c =
    let f = c.args.self.now.layout.now in
    let fr : SFits w32 c.reward-reward.result = search rules in
    let fs : SFits w64 c.total-sum.result = search rules in
    let w = reward_within (layout_table f) (law f) c.args.state c.args.choice c.requires.state c.requires.choice c.reward-reward.result c.reward-reward.ensures in
    record { reward = simp to_z-of_z w; total = simp to_z-of_z c.total-sum.ensures.within }

pub worth-lower-requires : goal.worth-lower-requires
worth-lower-requires c =
    let f = c.args.self.now.layout.now in
    let fr : SFits w32 c.reward-reward.result = search rules in
    let fs : SFits w64 c.total-sum.result = search rules in
    let w = reward_within (layout_table f) (law f) c.args.state c.args.choice c.requires.state c.requires.choice c.reward-reward.result c.reward-reward.ensures in
    record { reward = simp to_z-of_z w; total = simp to_z-of_z c.total-sum.ensures.within }
