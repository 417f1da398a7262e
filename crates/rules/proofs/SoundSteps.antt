-- One refine step keeps a book sound.
use Rattle.std.proofs.Common.{◌≡◌, ℕ, ◌<◌, true, false, ℤ, sym, ap, ◌∙◌, ⊎_elim, arith}
use lib.Signed.{lt_z}
use Rattle.std.proofs.lemmas.Bool.{cases_Bool, both_ways, cond-true, cond-false}
use Rattle.table.specs.Limits.{Lawful}
use Rattle.horizon.specs.Ring.{lin}
use Rattle.components.specs.Nodes.{node_of, in_component, component_of, components, states_of}
use Rattle.rules.specs.Setting.{Setting}
use Rattle.rules.specs.Choosing.{at, at_z}
use Rattle.rules.specs.Book.{Book, exit_at}
use Rattle.rules.specs.Refine.{largest_up, least_down, next_hi, next_lo, step}
use Rattle.rules.specs.Sound.{UpperCertified, LowerCertified, WorthOf, Sound}
use Rattle.rules.specs.Fit.{Fit}
use Rattle.rules.specs.Promises.{Tighter}
use Rattle.rules.specs.declared.exit.Exit.{Exit}
use Rattle.rules.specs.declared.exit.Exit.TheVariants.{Stay, Leave}
use Rattle.rules.proofs.Order.{le_self}
use Rattle.rules.proofs.Nodes.{inside_component, of_component, to_component, own_component}
use Rattle.rules.proofs.Certificates.{mix, upper_new, upper_same, lower_new, lower_same}
use Rattle.rules.proofs.StepFacts.{under_largest, attains_inside, over_least}
use Rattle.rules.proofs.Steps.{hi_here, hi_other, lo_here, lo_other, hi_falls, lo_rises, in_hi, in_lo, rises, recorded_here, recorded_other, recorded_same, step_fit}

-- the numbers that stay
hi_old : (M : Setting) (t : ℕ → ℕ) (k : ℕ) (h : ℤ) → lt_z (largest_up M t k) h ≡ false → next_hi M t k h ≡ h
unfolding next_hi
hi_old M t k h e = cond-false (lt_z (largest_up M t k) h) (largest_up M t k) h e

hi_new : (M : Setting) (t : ℕ → ℕ) (k : ℕ) (h : ℤ) → lt_z (largest_up M t k) h ≡ true → next_hi M t k h ≡ largest_up M t k
unfolding next_hi
hi_new M t k h e = cond-true (lt_z (largest_up M t k) h) (largest_up M t k) h e

lo_old : (M : Setting) (t : ℕ → ℕ) (k : ℕ) (l : ℤ) → lt_z l (least_down M t k) ≡ false → next_lo M t k l ≡ l
unfolding next_lo
lo_old M t k l e = cond-false (lt_z l (least_down M t k)) (least_down M t k) l e

lo_new : (M : Setting) (t : ℕ → ℕ) (k : ℕ) (l : ℤ) → lt_z l (least_down M t k) ≡ true → next_lo M t k l ≡ least_down M t k
unfolding next_lo
lo_new M t k l e = cond-true (lt_z l (least_down M t k)) (least_down M t k) l e

module _ (M : Setting) (L : Lawful M.table) (k : ℕ) (known : k < components M.table) (B : Book) (S : Sound M B) where
  abbrev F : Fit M B
  F = S.fit

  abbrev t : ℕ → ℕ
  t = at B.vector

  not_k : (s : ℕ) → in_component M.table s ≡ true → states_of M.table k s ≡ false → component_of M.table s ≡ k → ⊥
  not_k s e m q = both_ways (states_of M.table k s) m (to_component M.table L k s e q)

  -- at the states of component k, and where nothing is new
  hi_at : (s : ℕ) → states_of M.table k s ≡ true → at_z (step M k B).hi (component_of M.table s) ≡ next_hi M t k (at_z B.hi k)
  hi_at s m = ap (at_z (step M k B).hi) (of_component M.table L k s m).1 ∙ hi_here M k B (in_hi M L k known B F)

  lo_at : (s : ℕ) → states_of M.table k s ≡ true → at_z (step M k B).lo (component_of M.table s) ≡ next_lo M t k (at_z B.lo k)
  lo_at s m = ap (at_z (step M k B).lo) (of_component M.table L k s m).1 ∙ lo_here M k B (in_lo M L k known B F)

  hi_same : lt_z (largest_up M t k) (at_z B.hi k) ≡ false → (s : ℕ) → in_component M.table s ≡ true
      → at_z (step M k B).hi (component_of M.table s) ≡ at_z B.hi (component_of M.table s)
  hi_same f s e =
      ⊎_elim
      (λ (m : states_of M.table k s ≡ true).
      hi_at s m ∙ hi_old M t k (at_z B.hi k) f ∙ ap (at_z B.hi) (sym (of_component M.table L k s m).1))
      (λ (m : states_of M.table k s ≡ false). hi_other M k B (component_of M.table s) (not_k s e m))
      (cases_Bool (states_of M.table k s))

  lo_same : rises M k B ≡ false → (s : ℕ) → in_component M.table s ≡ true
      → at_z (step M k B).lo (component_of M.table s) ≡ at_z B.lo (component_of M.table s)
  lo_same f s e =
      ⊎_elim
      (λ (m : states_of M.table k s ≡ true).
      lo_at s m ∙ lo_old M t k (at_z B.lo k) f ∙ ap (at_z B.lo) (sym (of_component M.table L k s m).1))
      (λ (m : states_of M.table k s ≡ false). lo_other M k B (component_of M.table s) (not_k s e m))
      (cases_Bool (states_of M.table k s))

  upper : (u : ℕ → ℕ) × UpperCertified M (at_z (step M k B).hi) u
  upper =
      let u = S.upper.0 in
      ⊎_elim
      (λ (f : lt_z (largest_up M t k) (at_z B.hi k) ≡ true). (
        mix M k t u,
        upper_new M L k t u (at_z B.hi) (at_z (step M k B).hi) S.upper.1 F.vector.capped
            (λ s e m. hi_other M k B (component_of M.table s) (not_k s e m))
            (λ s c i m. rw (hi_at s m ∙ hi_new M t k (at_z B.hi k) f) (under_largest M L t k s c i m))
            (inside_component M.table L),
      ))
      (λ (f : lt_z (largest_up M t k) (at_z B.hi k) ≡ false).
      (u, upper_same M (at_z B.hi) (at_z (step M k B).hi) u S.upper.1 (λ s c i. hi_same f s (inside_component M.table L s c i))))
      (cases_Bool (lt_z (largest_up M t k) (at_z B.hi k)))

  lower : (v : ℕ → ℕ) × LowerCertified M (at_z (step M k B).lo) (at (step M k B).recorded) v
  lower =
      let v = S.lower.0 in
      ⊎_elim
      (λ (f : rises M k B ≡ true). (
        mix M k t v,
        lower_new M L k t v (at_z B.lo) (at_z (step M k B).lo) (at B.recorded) (at (step M k B).recorded) S.lower.1 F.vector.capped
            (λ s e m. lo_other M k B (component_of M.table s) (not_k s e m))
            (recorded_other M k B)
            (λ s h m. rw (recorded_here M k B f s h m) (attains_inside M L t k s (of_component M.table L k s m).0))
            (λ s h m. rw (recorded_here M k B f s h m, lo_at s m ∙ lo_new M t k (at_z B.lo k) f) (over_least M L t k s h m)),
      ))
      (λ (f : rises M k B ≡ false). (
        v,
        lower_same M (at_z B.lo) (at_z (step M k B).lo) (at B.recorded) (at (step M k B).recorded) v S.lower.1
            (λ s h e. lo_same f s e) (recorded_same M k B f),
      ))
      (cases_Bool (rises M k B))

  worth_more : (v : ℕ) (e : Exit) → WorthOf M (at_z B.lo) (at_z B.y) v e → WorthOf M (at_z (step M k B).lo) (at_z B.y) v e
  worth_more v Stay w = λ s h q.
      let x = w s h q in
      let a = x.1 in
      let b = lo_rises M L k known B F (component_of M.table s) (own_component M.table L s h x.0) in
      (x.0, omega (arith, lin))
  worth_more v (Leave u c) w = w

  pub step_sound : Sound M (step M k B)
  unfolding step
  step_sound = record {
    fit = step_fit M L k known B F;
    upper = upper;
    lower = lower;
    over = record {
      stay = λ s h e.
          let a = hi_falls M L k known B F (component_of M.table s) (own_component M.table L s h e) in
          let b = S.over.stay s h e in
          omega (arith, lin);
      leave = S.over.leave;
    };
    under = λ v l. worth_more v (exit_at B.plan v) (S.under v l);
    progress = S.progress;
  }

  pub step_tighter : Tighter M B (step M k B)
  unfolding step
  step_tighter = record {
    upper = λ s h. le_self (at_z B.x (node_of M.table s));
    lower = λ s h. le_self (at_z B.y (node_of M.table s));
    hi = hi_falls M L k known B F;
    lo = lo_rises M L k known B F;
  }
