-- The update of a node keeps y a subsolution for the plan, never lowers it, and keeps each plan that leaves leading ahead.
use Rattle.std.proofs.Common.{◌≡◌, ℕ, suc, ◌<◌, ◌≤◌, Bool, true, false, cond, eqb, ℤ, pos, ◌-ℤ◌, ◌≤ℤ◌, ◌<ℤ◌, sym, refl, ap, ◌∙◌, subst, inl, inr, ⊎_elim, arith}
use lib.Signed.{le_z}
use Rattle.std.proofs.lemmas.Bool.{cases_eq, cases_Bool, cond-true, cond-false, eq-eqb, ne_eqb, cases_lt, both_ways}
use Rattle.table.specs.Table.{successor}
use Rattle.table.specs.Limits.{Lawful}
use Rattle.std.proofs.lemmas.Int.{by_lt_z}
use Rattle.horizon.specs.Sums.{branch_sum_z}
use Rattle.horizon.specs.Means.{round_down, mean}
use Rattle.horizon.specs.Ring.{lin}
use Rattle.horizon.specs.Branches.{branch_sum_z_mono}
use Rattle.horizon.specs.MeansLemmas.{sum_over, lower_over, mean_to}
use Rattle.components.specs.Below.{any}
use Rattle.components.specs.Nodes.{nodes, node_of, component_of, lowest_of}
use Rattle.components.specs.Depth.{Leaving}
use Rattle.components.proofs.Below.{any_some, any_none}
use Rattle.rules.specs.Setting.{Setting}
use Rattle.rules.specs.Choosing.{at_z}
use Rattle.rules.specs.Book.{Book, exit_at}
use Rattle.rules.specs.Sweep.{Candidate, best_y, exit_or, update}
use Rattle.rules.specs.Candidates.{stay_candidate, leave_candidate, mean_of, CandidateOf, stays, leaves}
use Rattle.rules.specs.Fit.{Fit}
use Rattle.rules.specs.Sound.{WorthOf, Subsolution, Ahead, Leads, Progress}
use Rattle.rules.specs.declared.exit.Exit.{Exit}
use Rattle.rules.specs.declared.exit.Exit.TheVariants.{Stay, Leave}
use Rattle.rules.proofs.Order.{le_self}
use Rattle.rules.proofs.Nodes.{lowest_state, lowest_node, component_is, component_some, node_number}
use Rattle.rules.proofs.Sides.{lower_side}
use Rattle.rules.proofs.Updates.{best, best_is, value_is, exit_is, new_y, new_exit, rises, y_here, y_other, plan_here, plan_other}

module _ (M : Setting) (L : Lawful M.table) (v : ℕ) (B : Book) (S : Fit M B) (under : Subsolution M (at_z B.lo) (at_z B.y) (exit_at B.plan)) where
  abbrev y : ℕ → ℤ
  y w = at_z B.y w

  abbrev y' : ℕ → ℤ
  y' w = at_z (update M v B).y w

  abbrev plan' : ℕ → Exit
  plan' w = exit_at (update M v B).plan w

  -- the mean of y after a choice, rounded down
  abbrev below : ℕ → ℕ → ℤ
  below s c = mean round_down M.table s c (λ u. y (node_of M.table u))

  -- the node of a successor
  next_node : (s c b : ℕ) → s < M.table.states → c < M.table.choices s → b < M.table.branches s c
      → node_of M.table (successor M.table s c b) < nodes M.table
  next_node s c b h k m = node_number M.table L (successor M.table s c b) (L.successors s c b h k m)

  module _ (l : v < nodes M.table) where
    updated_y : y' v ≡ new_y M v B
    updated_y = y_here M v B (let q = S.lengths.y in omega arith)

    new_plan : plan' v ≡ new_exit M v B
    new_plan = plan_here M v B (let q = S.lengths.plan in omega arith)

    abbrev chosen : Candidate
    chosen = best M L round_down lower_side B.lo B.y v l

    chosen_from : CandidateOf M round_down B.lo B.y v chosen
    chosen_from = (best_is M L round_down lower_side B.lo B.y v l).candidate

    chosen_value : new_y M v B ≡ chosen.value
    chosen_value = value_is M L round_down lower_side B.lo B.y v l (y v)

    over_candidate : (a : Candidate) → CandidateOf M round_down B.lo B.y v a → a.value ≤ℤ new_y M v B
    over_candidate a w =
        let e = chosen_value in
        let m = (best_is M L round_down lower_side B.lo B.y v l).largest a w in
        omega (arith, lin)

    -- the plan's own candidate is worth y
    worth_over : (e : Exit) → WorthOf M (at_z B.lo) y v e → y v ≤ℤ new_y M v B
    worth_over Stay w =
        let s = lowest_of M.table v in
        let h = lowest_state M.table L v l in
        let n = lowest_node M.table L v l in
        let x = w s h n in
        let a = x.1 in
        let b = over_candidate (stay_candidate B.lo (component_of M.table s)) (stays (component_of M.table s) (component_some M.table L v s h n x.0) refl) in
        omega (arith, lin)
    worth_over (Leave t c) w =
        let a = lower_over M.table L.denominator.0 t c (λ u. y (node_of M.table u)) (y v) w.gain in
        let b = over_candidate (leave_candidate (mean_of M round_down B.y) t c) (leaves t c w.leaving refl) in
        omega (arith, lin)

    new_rises : y v ≤ℤ new_y M v B
    new_rises = worth_over (exit_at B.plan v) (under v l)

    -- where y does not rise all stays
    same_y : rises M v B ≡ false → y' v ≡ y v
    same_y f = let a = updated_y in let b = new_rises in omega (arith, lin)

    same_plan : rises M v B ≡ false → plan' v ≡ exit_at B.plan v
    same_plan f = new_plan ∙ cond-false (rises M v B) (exit_or (best_y M v B) (exit_at B.plan v)) (exit_at B.plan v) f

    -- where it rises the plan is the chosen one
    risen_y : y' v ≡ chosen.value
    risen_y = updated_y ∙ chosen_value

    risen : rises M v B ≡ true → y v <ℤ chosen.value
    risen f = let e = chosen_value in omega (arith, lin)

    risen_plan : rises M v B ≡ true → plan' v ≡ chosen.exit
    risen_plan f =
        new_plan ∙ cond-true (rises M v B) (exit_or (best_y M v B) (exit_at B.plan v)) (exit_at B.plan v) f
        ∙ exit_is M L round_down lower_side B.lo B.y v l (exit_at B.plan v)

  pub y_rises : (w : ℕ) → w < nodes M.table → y w ≤ℤ y' w
  y_rises w l =
      ⊎_elim
      (λ (e : w ≡ v). let k : v < nodes M.table = rw e at l in rw e (rw (updated_y k) (new_rises k)))
      (λ (n : w ≡ v → ⊥). let a = y_other M v B w n in omega (arith, lin))
      (cases_eq w v)

  sum_rises : (s c : ℕ) → s < M.table.states → c < M.table.choices s
      → branch_sum_z M.table s c (λ u. y (node_of M.table u)) ≤ℤ branch_sum_z M.table s c (λ u. y' (node_of M.table u))
  sum_rises s c h k =
      branch_sum_z_mono M.table s c (λ u. y (node_of M.table u)) (λ u. y' (node_of M.table u))
      (λ b m. y_rises (node_of M.table (successor M.table s c b)) (next_node s c b h k m))

  -- a node whose y and plan are as before
  record Kept (w : ℕ) : Type 0 where
    value : y' w ≡ y w
    exit : plan' w ≡ exit_at B.plan w

  -- a node is as before, or it is the one that has risen
  data Turn (w : ℕ) : Type 0 where
    kept : Kept w → Turn w
    rose : w ≡ v → v < nodes M.table → rises M v B ≡ true → Turn w

  turn : (w : ℕ) → w < nodes M.table → Turn w
  turn w l =
      ⊎_elim
      (λ (e : w ≡ v).
      let k : v < nodes M.table = rw e at l in
      ⊎_elim
      (λ (f : rises M v B ≡ true). rose e k f)
      (λ (f : rises M v B ≡ false). kept (rw e (record { value = same_y k f; exit = same_plan k f })))
      (cases_Bool (rises M v B)))
      (λ (n : w ≡ v → ⊥). kept (record { value = y_other M v B w n; exit = plan_other M v B w n }))
      (cases_eq w v)

  -- Subsolution

  worth_kept : (w : ℕ) → y' w ≡ y w → (e : Exit) → WorthOf M (at_z B.lo) y w e → WorthOf M (at_z B.lo) y' w e
  worth_kept w q Stay x = λ s h n. let z = x s h n in let a = z.1 in (z.0, omega (arith, lin))
  worth_kept w q (Leave t c) x = record {
    leaving = x.leaving;
    gain =
        let g = x.gain in
        let m = sum_rises t c x.leaving.choice.state x.leaving.choice.choice in
        rw q (omega (arith, lin));
  }

  worth_new : (l : v < nodes M.table) (a : Candidate) → CandidateOf M round_down B.lo B.y v a → y' v ≡ a.value
      → WorthOf M (at_z B.lo) y' v a.exit
  worth_new l a x e =
      elim x [
        | stays i g q ↦
            subst (λ (z : Candidate). WorthOf M (at_z B.lo) y' v z.exit) (sym q)
            (λ s h n.
            let w = component_is M.table L v i s h n g in
            let a1 : at_z B.lo (component_of M.table s) ≡ at_z B.lo i = ap (at_z B.lo) w.1 in
            let a2 : a.value ≡ at_z B.lo i = ap (λ (z : Candidate). z.value) q in
            (w.0, omega (arith, lin)))
        | leaves t c w q ↦
            subst (λ (z : Candidate). WorthOf M (at_z B.lo) y' v z.exit) (sym q)
            (record {
              leaving = w;
              gain =
                  let a1 = sum_over M.table L.denominator.0 t c (λ u. y (node_of M.table u)) (below t c) (le_self (below t c)) in
                  let a2 = sum_rises t c w.choice.state w.choice.choice in
                  let a3 : y' v ≡ below t c = e ∙ ap (λ (z : Candidate). z.value) q in
                  rw a3 (omega (arith, lin));
            })
      ]

  pub y_under : Subsolution M (at_z B.lo) (at_z (update M v B).y) (exit_at (update M v B).plan)
  y_under w l =
      elim (turn w l) [
        | kept k ↦ rw k.exit (worth_kept w k.value (exit_at B.plan w) (under w l))
        | rose e h f ↦ rw e (rw (risen_plan h f) (worth_new h (chosen h) (chosen_from h) (risen_y h)))
      ]

  -- Stamps: the node that rises has the newest

  -- some branch of a choice leads to a node with y not below the rounded mean
  reaches_mean : (s c : ℕ) → s < M.table.states → c < M.table.choices s
      → (b : ℕ) × (b < M.table.branches s c) × (below s c ≤ℤ y (node_of M.table (successor M.table s c b)))
  reaches_mean s c h k =
      ⊎_elim
      (λ (e : any (M.table.branches s c) p ≡ true).
      let x = any_some (M.table.branches s c) p e in
      let q = x.2 in
      (x.0, x.1, omega (arith, lin)))
      (λ (e : any (M.table.branches s c) p ≡ false).
      let a = mean_to round_down lower_side.equal lower_side.larger M.table L s c h k (λ u. y (node_of M.table u)) (below s c -ℤ pos 1)
      (λ b m. let q = any_none (M.table.branches s c) p e b m in omega (arith, lin)) in
      let z : ⊥ = omega (arith, lin) in
      absurd z)
      (cases_Bool (any (M.table.branches s c) p))
    where
      p : ℕ → Bool
      p b = le_z (below s c) (y (node_of M.table (successor M.table s c b)))

  module _ (stamp : ℕ → ℕ) (fresh : ℕ) (progress : Progress M y (exit_at B.plan) stamp fresh) where
    -- y does not rise: the stamps stay
    leads_same : ((w : ℕ) → w < nodes M.table → y' w ≡ y w) → (w : ℕ) → w < nodes M.table
        → (e : Exit) → WorthOf M (at_z B.lo) y w e → Leads M y stamp w e → Leads M y' stamp w e
    leads_same same w l Stay k x = tt
    leads_same same w l (Leave t c) k x =
        let n = next_node t c x.0 k.leaving.choice.state k.leaving.choice.choice x.1 in
        let yu = same (node_of M.table (successor M.table t c x.0)) n in
        let yw = same w l in
        (x.0, x.1, elim x.2 [ inl g ↦ inl (omega (arith, lin)) | inr g ↦ (let q = g.0 in inr (omega (arith, lin), g.1)) ])

    module _ (h : v < nodes M.table) (f : rises M v B ≡ true) where
      stamped : ℕ → ℕ
      stamped u = cond (eqb u v) fresh (stamp u)

      stamped_here : stamped v ≡ fresh
      unfolding stamped
      stamped_here = cond-true (eqb v v) fresh (stamp v) (eq-eqb v v refl)

      stamped_other : (u : ℕ) → (u ≡ v → ⊥) → stamped u ≡ stamp u
      unfolding stamped
      stamped_other u n = cond-false (eqb u v) fresh (stamp u) (ne_eqb u v n)

      -- a node other than v: what was ahead of it still is
      ahead_kept : (u w : ℕ) → (w ≡ v → ⊥) → Ahead y stamp u w → Ahead y' stamped u w
      ahead_kept u w n a =
          let yw = y_other M v B w n in
          ⊎_elim
          (λ (e : u ≡ v).
          let yu : y' u ≡ (chosen h).value = ap y' e ∙ risen_y h in
          let r = risen h f in
          let yv : y u ≡ y v = ap y e in
          inl (elim a [ inl g ↦ omega (arith, lin) | inr g ↦ (let q = g.0 in omega (arith, lin)) ]))
          (λ (m : u ≡ v → ⊥).
          let yu = y_other M v B u m in
          let su = stamped_other u m in
          let sw = stamped_other w n in
          elim a [ inl g ↦ inl (omega (arith, lin)) | inr g ↦ (let q = g.0 in let o = g.1 in inr (omega (arith, lin), omega arith)) ])
          (cases_eq u v)

      leads_kept : (w : ℕ) → (w ≡ v → ⊥) → (e : Exit) → Leads M y stamp w e → Leads M y' stamped w e
      leads_kept w n Stay x = tt
      leads_kept w n (Leave t c) x =
          (x.0, x.1, ahead_kept (node_of M.table (successor M.table t c x.0)) w n x.2)

      -- the node v: a branch of the chosen exit has y not below the new number, and an older stamp
      leads_new : (a : Candidate) → CandidateOf M round_down B.lo B.y v a → y' v ≡ a.value → y v <ℤ a.value
          → Leads M y' stamped v a.exit
      leads_new a z e r =
          elim z [
            | stays i g q ↦ subst (λ (k : Candidate). Leads M y' stamped v k.exit) (sym q) tt
            | leaves t c w q ↦
                subst (λ (k : Candidate). Leads M y' stamped v k.exit) (sym q)
                (found t c w (ap (λ (k : Candidate). k.value) q))
          ]
        where
          found : (t c : ℕ) → Leaving M.table v t c → a.value ≡ below t c → Leads M y' stamped v (Leave t c)
          found t c w q =
              let x = reaches_mean t c w.choice.state w.choice.choice in
              let u = node_of M.table (successor M.table t c x.0) in
              let g = x.2 in
              let n : u ≡ v → ⊥ = λ d. let k : y u ≡ y v = ap y d in omega (arith, lin) in
              let yu = y_other M v B u n in
              let su = stamped_other u n in
              let sv = stamped_here in
              let o = progress.older u (next_node t c x.0 w.choice.state w.choice.choice x.1) in (
                x.0,
                x.1,
                by_lt_z
                    a.value
                    (y u)
                    (λ (d : a.value <ℤ y u). inl (omega (arith, lin)))
                    (λ (d : y u ≤ℤ a.value). inr (omega (arith, lin), omega arith)),
              )

      risen_progress : Progress M y' plan' stamped (suc fresh)
      risen_progress = record {
        older = λ w l.
            let o = progress.older w l in
            ⊎_elim
            (λ (e : w ≡ v). let a : stamped w ≡ fresh = ap stamped e ∙ stamped_here in omega arith)
            (λ (n : w ≡ v → ⊥). let a = stamped_other w n in omega arith)
            (cases_eq w v);
        leads = λ w l.
            ⊎_elim
            (λ (e : w ≡ v). rw e (rw (risen_plan h f) (leads_new (chosen h) (chosen_from h) (risen_y h) (risen h f))))
            (λ (n : w ≡ v → ⊥). rw (plan_other M v B w n) (leads_kept w n (exit_at B.plan w) (progress.leads w l)))
            (cases_eq w v);
      }

    all_same : ((w : ℕ) → w < nodes M.table → Kept w) → Progress M y' plan' stamp fresh
    all_same same = record {
      older = progress.older;
      leads = λ w l. rw (same w l).exit (leads_same (λ u m. (same u m).value) w l (exit_at B.plan w) (under w l) (progress.leads w l));
    }

    pub y_progress : (r : ℕ → ℕ) × (n : ℕ) × Progress M (at_z (update M v B).y) (exit_at (update M v B).plan) r n
    y_progress =
        ⊎_elim
        (λ (f : rises M v B ≡ true).
        ⊎_elim
        (λ (h : v < nodes M.table). (stamped h f, suc fresh, risen_progress h f))
        (λ (h : nodes M.table ≤ v).
        (stamp, fresh, all_same (λ w l. elim (turn w l) [ kept k ↦ k | rose e m g ↦ absurd (let z : ⊥ = omega arith in z) ])))
        (cases_lt v (nodes M.table)))
        (λ (f : rises M v B ≡ false).
        (stamp, fresh, all_same (λ w l. elim (turn w l) [ kept k ↦ k | rose e m g ↦ absurd (both_ways (rises M v B) f g) ])))
        (cases_Bool (rises M v B))
