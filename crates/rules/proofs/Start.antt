-- The book at the start fits and is sound.
use Rattle.std.proofs.Common.{◌≡◌, ℕ, suc, ◌<◌, true, false, cond, replicate, ℤ, pos, ◌+ℤ◌, Some, None, Option, sym, refl, ap, ◌∙◌, subst, inr, ⊎_elim, arith}
use Rattle.std.proofs.lemmas.List.{length-replicate, get_or-replicate}
use Rattle.std.proofs.lemmas.Bool.{cases_Bool, cond-true, cond_both}
use Rattle.table.specs.Table.{successor}
use Rattle.table.specs.Limits.{Lawful}
use Rattle.horizon.specs.Means.{round_down, round_up, mean}
use Rattle.horizon.specs.Ring.{lin}
use Rattle.horizon.specs.Branches.{branch_sum_z_from, branch_sum_z_to}
use Rattle.horizon.specs.MeansLemmas.{bias_under, bias_over}
use Rattle.components.specs.Below.{first}
use Rattle.components.specs.Inside.{inside}
use Rattle.components.specs.Nodes.{nodes, node_of, components, component_of, in_component, lowest_of, component_at}
use Rattle.components.specs.Depth.{depth}
use Rattle.components.proofs.Below.{first_le, first_at}
use Rattle.components.proofs.Reversible.{inside_exists}
use Rattle.rules.specs.Setting.{Setting, bottom, top}
use Rattle.rules.specs.Choosing.{at, at_z}
use Rattle.rules.specs.Book.{exit_at, start}
use Rattle.rules.specs.Fit.{RecordedFits, Within, ExitFits, PlanFits, Fit}
use Rattle.rules.specs.Sound.{UpperCertified, LowerCertified, Supersolution, WorthOf, Subsolution, Leads, Progress, Sound}
use Rattle.rules.specs.declared.exit.Exit.{Exit}
use Rattle.rules.specs.declared.exit.Exit.TheVariants.{Stay, Leave}
use Rattle.rules.proofs.Places.{tabulate_at, tabulate_length}
use Rattle.rules.proofs.Nodes.{inside_choice, inside_component, none_inside, in_together, own_component, some_state, node_number, lowest_state, lowest_node, component_some, component_none, depth_low, depth_falls}
use Rattle.rules.proofs.Sides.{lower_side, upper_side, over_bottom, under_top, bottom_top}

module _ (M : Setting) (L : Lawful M.table) where
  -- a list of one number
  pub all : (n : ℕ) (z : ℤ) (i : ℕ) → i < n → at_z (replicate n z) i ≡ z
  all n z i l = get_or-replicate n i z (pos 0) l

  pub none : (s : ℕ) → s < M.table.states → at (replicate M.table.states 0) s ≡ 0
  none s h = get_or-replicate M.table.states s 0 0 h

  bottom_within : (n : ℕ) → Within M n (at_z (replicate n (bottom M)))
  bottom_within n i l = rw (all n (bottom M) i l) (let a = bottom_top M L in (omega (arith, lin), a))

  top_within : (n : ℕ) → Within M n (at_z (replicate n (top M)))
  top_within n i l = rw (all n (top M) i l) (let a = bottom_top M L in (a, omega (arith, lin)))

  -- the recorded choices
  abbrev pub firsts : ℕ → ℕ
  firsts s = cond (in_component M.table s) (first (M.table.choices s) (inside M.table s)) 0

  pub first_is_inside : (s : ℕ) → in_component M.table s ≡ true
      → (first (M.table.choices s) (inside M.table s) < M.table.choices s) × (inside M.table s (first (M.table.choices s) (inside M.table s)) ≡ true)
  first_is_inside s e =
      let x = inside_choice M.table L s e in
      let l = first_le (M.table.choices s) (inside M.table s) x.0 x.2 in
      let m = x.1 in
      (omega arith, first_at (M.table.choices s) (inside M.table s) x.0 x.1 x.2)

  pub recorded_at : (s : ℕ) → s < M.table.states → at (start M).recorded s ≡ firsts s
  unfolding start
  recorded_at s h = tabulate_at M.table.states firsts s 0 h

  pub start_recorded : RecordedFits M (at (start M).recorded)
  start_recorded s h =
      rw (recorded_at s h)
      (cond_both (in_component M.table s) (first (M.table.choices s) (inside M.table s)) 0 (λ c. c < M.table.choices s)
      (λ e. (first_is_inside s e).0) (λ e. (L.choices s h).0))

  recorded_inside : (s : ℕ) → s < M.table.states → in_component M.table s ≡ true → inside M.table s (at (start M).recorded s) ≡ true
  recorded_inside s h e =
      rw (recorded_at s h ∙ cond-true (in_component M.table s) (first (M.table.choices s) (inside M.table s)) 0 e) (first_is_inside s e).1

  -- the plan: a component stays, a lone state plays its choice 0
  abbrev pub exits : Option ℕ → ℕ → Exit
  exits o v = elim o [ Some i ↦ Stay | None ↦ Leave (lowest_of M.table v) 0 ]

  pub plan_at : (v : ℕ) → v < nodes M.table → exit_at (start M).plan v ≡ exits (component_at M.table v) v
  unfolding start
  plan_at v l = tabulate_at (nodes M.table) (λ w. exits (component_at M.table w) w) v Stay l

  -- what holds of staying, for a component, and of choice 0, for a lone state, holds of the plan
  each : (P : ℕ → Exit → Type 0)
      → ((v : ℕ) → v < nodes M.table → in_component M.table (lowest_of M.table v) ≡ true → P v Stay)
      → ((v : ℕ) → v < nodes M.table → in_component M.table (lowest_of M.table v) ≡ false → P v (Leave (lowest_of M.table v) 0))
      → (v : ℕ) → v < nodes M.table → P v (exit_at (start M).plan v)
  each P stay leave v l =
      let s = lowest_of M.table v in
      let h = lowest_state M.table L v l in
      let q = lowest_node M.table L v l in
      ⊎_elim
      (λ (e : in_component M.table s ≡ true).
      subst (P v) (sym (plan_at v l ∙ ap (λ (o : Option ℕ). exits o v) (component_some M.table L v s h q e))) (stay v l e))
      (λ (e : in_component M.table s ≡ false).
      subst (P v) (sym (plan_at v l ∙ ap (λ (o : Option ℕ). exits o v) (component_none M.table L v s h q e))) (leave v l e))
      (cases_Bool (in_component M.table s))

  pub start_plan : PlanFits M (exit_at (start M).plan)
  start_plan =
      each (ExitFits M) (λ v l e. tt) (λ v l e.
      let h = lowest_state M.table L v l in
      (h, lowest_node M.table L v l, (L.choices (lowest_of M.table v) h).0))

  pub start_fit : Fit M (start M)
  unfolding start
  start_fit = record {
    lengths = record {
      vector = length-replicate M.table.states 0;
      recorded = tabulate_length M.table.states firsts;
      lo = length-replicate (components M.table) (bottom M);
      hi = length-replicate (components M.table) (top M);
      x = length-replicate (nodes M.table) (top M);
      y = length-replicate (nodes M.table) (bottom M);
      plan = tabulate_length (nodes M.table) (λ w. exits (component_at M.table w) w);
    };
    vector = record {
      capped = λ s h. let e = none s h in omega arith;
      rooted = λ k l. let x = some_state M.table L k l in (x.0, x.1, x.2, none x.0 x.1);
    };
    recorded = start_recorded;
    lo = bottom_within (components M.table);
    hi = top_within (components M.table);
    x = top_within (nodes M.table);
    y = bottom_within (nodes M.table);
    plan = start_plan;
  }

  -- Certificates: the vector 0

  zero_up : (s c : ℕ) → s < M.table.states → c < M.table.choices s → mean round_up M.table s c (λ u. pos 0) ≡ pos 0
  zero_up s c h k = upper_side.equal M.table L s c h k (λ u. pos 0) (pos 0) (λ b l. refl)

  zero_down : (s c : ℕ) → s < M.table.states → c < M.table.choices s → mean round_down M.table s c (λ u. pos 0) ≡ pos 0
  zero_down s c h k = lower_side.equal M.table L s c h k (λ u. pos 0) (pos 0) (λ b l. refl)

  upper : UpperCertified M (at_z (replicate (components M.table) (top M))) (λ s. 0)
  upper = record {
    capped = λ s h. omega arith;
    bound = λ s c i.
        let p = inside_exists M.table s c i in
        let z = zero_up s c p.state p.choice in
        let r = under_top M s c p.state p.choice in
        let e = inside_component M.table L s c i in
        rw (all (components M.table) (top M) (component_of M.table s) (own_component M.table L s p.state e))
        (bias_under M.table L.denominator.0 s c M.scale (λ u. 0) (M.table.reward s c) (top M +ℤ pos 0) (omega (arith, lin)));
  }

  lower : LowerCertified M (at_z (replicate (components M.table) (bottom M))) (at (start M).recorded) (λ s. 0)
  lower = record {
    capped = λ s h. omega arith;
    stays = recorded_inside;
    bound = λ s h e.
        let c = at (start M).recorded s in
        let z = zero_down s c h (start_recorded s h) in
        let r = over_bottom M s c h (start_recorded s h) in
        rw (all (components M.table) (bottom M) (component_of M.table s) (own_component M.table L s h e))
        (bias_over M.table L.denominator.0 s c M.scale (λ u. 0) (M.table.reward s c) (bottom M +ℤ pos 0) (omega (arith, lin)));
  }

  -- at a node of a state
  at_node : (z : ℤ) (s : ℕ) → s < M.table.states → at_z (replicate (nodes M.table) z) (node_of M.table s) ≡ z
  at_node z s h = all (nodes M.table) z (node_of M.table s) (node_number M.table L s h)

  over : Supersolution M (at_z (replicate (components M.table) (top M))) (at_z (replicate (nodes M.table) (top M)))
  over = record {
    stay = λ s h e.
        let a = all (components M.table) (top M) (component_of M.table s) (own_component M.table L s h e) in
        let b = at_node (top M) s h in
        omega (arith, lin);
    leave = λ s c h k i.
        rw (at_node (top M) s h)
        (branch_sum_z_to M.table L s c h k (λ u. at_z (replicate (nodes M.table) (top M)) (node_of M.table u)) (top M)
        (λ b l. let e = at_node (top M) (successor M.table s c b) (L.successors s c b h k l) in omega (arith, lin)));
  }

  abbrev y : ℕ → ℤ
  y = at_z (replicate (nodes M.table) (bottom M))

  abbrev lo : ℕ → ℤ
  lo = at_z (replicate (components M.table) (bottom M))

  under : Subsolution M lo y (exit_at (start M).plan)
  under =
      each (WorthOf M lo y)
      (λ v l e s h q.
      let i = in_together M.table L s (lowest_of M.table v) h (lowest_state M.table L v l) (q ∙ sym (lowest_node M.table L v l)) e in
      let a = all (components M.table) (bottom M) (component_of M.table s) (own_component M.table L s h i) in
      let b = all (nodes M.table) (bottom M) v l in
      (i, omega (arith, lin)))
      (λ v l e.
      let s = lowest_of M.table v in
      let h = lowest_state M.table L v l in
      let k = (L.choices s h).0 in
      record {
        leaving = record { choice = record { state = h; choice = k }; node = lowest_node M.table L v l; out = none_inside M.table L s 0 e };
        gain = rw (all (nodes M.table) (bottom M) v l)
            (branch_sum_z_from M.table L s 0 h k (λ u. y (node_of M.table u)) (bottom M)
            (λ b m. let q = at_node (bottom M) (successor M.table s 0 b) (L.successors s 0 b h k m) in omega (arith, lin)));
      })

  progress : Progress M y (exit_at (start M).plan) (depth M.table) (suc M.table.states)
  progress = record {
    older = λ v l. let d = depth_low M.table L v l in omega arith;
    leads = each (Leads M y (depth M.table)) (λ v l e. tt) (λ v l e.
        let s = lowest_of M.table v in
        let h = lowest_state M.table L v l in
        let k = (L.choices s h).0 in
        let x = depth_falls M.table L s 0 h k (none_inside M.table L s 0 e) in
        let u = successor M.table s 0 x.0 in
        let d : depth M.table (node_of M.table u) < depth M.table v = rw (lowest_node M.table L v l) at x.2 in
        (x.0, x.1, inr (at_node (bottom M) u (L.successors s 0 x.0 h k x.1) ∙ sym (all (nodes M.table) (bottom M) v l), d)));
  }

  pub start_sound : Sound M (start M)
  unfolding start
  start_sound = record {
    fit = start_fit;
    upper = (λ s. 0, upper);
    lower = (λ s. 0, lower);
    over = over;
    under = under;
    progress = (depth M.table, suc M.table.states, progress);
  }
