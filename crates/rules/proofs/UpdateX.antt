-- The update of a node keeps x a supersolution, and never raises it.
use Rattle.std.proofs.Common.{◌≡◌, ℕ, ◌<◌, ℤ, ◌≤ℤ◌, refl, ap, ◌∙◌, ⊎_elim, arith}
use Rattle.std.proofs.lemmas.Bool.{cases_eq}
use Rattle.table.specs.Table.{successor}
use Rattle.table.specs.Limits.{Lawful}
use Rattle.horizon.specs.Sums.{branch_sum_z}
use Rattle.horizon.specs.Means.{round_up, mean}
use Rattle.horizon.specs.Ring.{lin}
use Rattle.horizon.specs.Branches.{branch_sum_z_mono}
use Rattle.horizon.specs.MeansLemmas.{sum_under, upper_under}
use Rattle.components.specs.Nodes.{nodes, node_of, component_of, lowest_of}
use Rattle.components.specs.Depth.{Leaving}
use Rattle.rules.specs.Setting.{Setting}
use Rattle.rules.specs.Choosing.{at_z}
use Rattle.rules.specs.Book.{Book}
use Rattle.rules.specs.Sweep.{Candidate, update}
use Rattle.rules.specs.Candidates.{stay_candidate, leave_candidate, mean_of, CandidateOf, stays, leaves}
use Rattle.rules.specs.Fit.{Fit}
use Rattle.rules.specs.Sound.{Supersolution}
use Rattle.rules.proofs.Nodes.{lowest_state, lowest_node, component_is, component_some, node_number}
use Rattle.rules.proofs.Sides.{upper_side}
use Rattle.rules.proofs.Updates.{best, best_is, value_is, new_x, x_here, x_other}

module _ (M : Setting) (L : Lawful M.table) (v : ℕ) (B : Book) (S : Fit M B) where
  abbrev x : ℕ → ℤ
  x w = at_z B.x w

  abbrev x' : ℕ → ℤ
  x' w = at_z (update M v B).x w

  module _ (l : v < nodes M.table) where
    is_new : x' v ≡ new_x M v B
    is_new = x_here M v B (let q = S.lengths.x in omega arith)

    -- no candidate is above the new number
    over_candidate : (a : Candidate) → CandidateOf M round_up B.hi B.x v a → a.value ≤ℤ new_x M v B
    over_candidate a w =
        let e = value_is M L round_up upper_side B.hi B.x v l (x v) in
        let m = (best_is M L round_up upper_side B.hi B.x v l).largest a w in
        omega (arith, lin)

    over_leaving : (s c : ℕ) → Leaving M.table v s c → mean round_up M.table s c (λ u. x (node_of M.table u)) ≤ℤ new_x M v B
    over_leaving s c w = over_candidate (leave_candidate (mean_of M round_up B.x) s c) (leaves s c w refl)

    module _ (over : Supersolution M (at_z B.hi) x) where
      candidate_falls : (a : Candidate) → CandidateOf M round_up B.hi B.x v a → a.value ≤ℤ x v
      candidate_falls a w =
          elim w [
            | stays i g q ↦
                (let s = lowest_of M.table v in
                let h = lowest_state M.table L v l in
                let n = lowest_node M.table L v l in
                let y = component_is M.table L v i s h n g in
                let a1 = over.stay s h y.0 in
                let a2 : at_z B.hi (component_of M.table s) ≡ at_z B.hi i = ap (at_z B.hi) y.1 in
                let a3 : x (node_of M.table s) ≡ x v = ap x n in
                let a4 : a.value ≡ at_z B.hi i = ap (λ (z : Candidate). z.value) q in
                omega (arith, lin))
            | leaves s c y q ↦
                rw (ap (λ (z : Candidate). z.value) q)
                (upper_under M.table L.denominator.0 s c (λ u. x (node_of M.table u)) (x v)
                (rw y.node at (over.leave s c y.choice.state y.choice.choice y.out)))
          ]

      new_falls : new_x M v B ≤ℤ x v
      new_falls =
          let e = value_is M L round_up upper_side B.hi B.x v l (x v) in
          let m = candidate_falls (best M L round_up upper_side B.hi B.x v l) (best_is M L round_up upper_side B.hi B.x v l).candidate in
          omega (arith, lin)

  module _ (over : Supersolution M (at_z B.hi) x) where
    pub x_falls : (w : ℕ) → w < nodes M.table → x' w ≤ℤ x w
    x_falls w l =
        ⊎_elim
        (λ (e : w ≡ v). let k : v < nodes M.table = rw e at l in rw e (rw (is_new k) (new_falls k over)))
        (λ (n : w ≡ v → ⊥). let a = x_other M v B w n in omega (arith, lin))
        (cases_eq w v)

    sum_falls : (s c : ℕ) → s < M.table.states → c < M.table.choices s
        → branch_sum_z M.table s c (λ u. x' (node_of M.table u)) ≤ℤ branch_sum_z M.table s c (λ u. x (node_of M.table u))
    sum_falls s c h k =
        branch_sum_z_mono M.table s c (λ u. x' (node_of M.table u)) (λ u. x (node_of M.table u))
        (λ b m. x_falls (node_of M.table (successor M.table s c b)) (node_number M.table L (successor M.table s c b) (L.successors s c b h k m)))

    pub x_over : Supersolution M (at_z B.hi) (at_z (update M v B).x)
    x_over = record {
      stay = λ s h e.
          ⊎_elim
          (λ (q : node_of M.table s ≡ v).
          let k : v < nodes M.table = rw q at (node_number M.table L s h) in
          let a = over_candidate k (stay_candidate B.hi (component_of M.table s)) (stays (component_of M.table s) (component_some M.table L v s h q e) refl) in
          rw q (rw (is_new k) a))
          (λ (n : node_of M.table s ≡ v → ⊥). rw (x_other M v B (node_of M.table s) n) (over.stay s h e))
          (cases_eq (node_of M.table s) v);
      leave = λ s c h k i.
          let m = sum_falls s c h k in
          ⊎_elim
          (λ (q : node_of M.table s ≡ v).
          let j : v < nodes M.table = rw q at (node_number M.table L s h) in
          let a = sum_under M.table L.denominator.0 s c (λ u. x (node_of M.table u)) (new_x M v B)
          (over_leaving j s c (record { choice = record { state = h; choice = k }; node = q; out = i })) in
          let e : x' (node_of M.table s) ≡ new_x M v B = ap x' q ∙ is_new j in
          rw e (omega (arith, lin)))
          (λ (n : node_of M.table s ≡ v → ⊥).
          let a = over.leave s c h k i in
          rw (x_other M v B (node_of M.table s) n) (omega (arith, lin)))
          (cases_eq (node_of M.table s) v);
    }
