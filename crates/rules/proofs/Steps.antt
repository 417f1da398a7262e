-- One refine step: what it makes of each list, and that the book still fits.
use Rattle.std.proofs.Common.{◌≡◌, ℕ, ◌<◌, Bool, true, false, cond, not, ◌&&◌, ◌⊎◌, length, ℤ, pos, ◌≤ℤ◌, sym, refl, ◌∙◌, inl, inr, ⊎_elim, arith}
use lib.Signed.{lt_z}
use Rattle.std.proofs.lemmas.List.{get_or-set_same, get_or-set_other, length-set}
use Rattle.std.proofs.lemmas.Bool.{cases_eq, cases_Bool, cond-true, cond-false, cond_both, and_from, and_left, and_right, not_from_true, not_from_false}
use Rattle.table.specs.Limits.{Lawful}
use Rattle.horizon.specs.Ring.{lin}
use Rattle.components.specs.Nodes.{components, states_of}
use Rattle.rules.specs.Setting.{Setting}
use Rattle.rules.specs.Choosing.{at, at_z}
use Rattle.rules.specs.Book.{Book}
use Rattle.rules.specs.Refine.{largest_up, least_down, attains, shifted, held, next_vector, next_hi, next_lo, next_recorded, step}
use Rattle.rules.specs.Fit.{Lengths, VectorFits, RecordedFits, Within, Fit}
use Rattle.rules.proofs.Places.{tabulate_at, tabulate_length}
use Rattle.rules.proofs.Nodes.{of_component}
use Rattle.rules.proofs.StepFacts.{attains_names, largest_bottom, least_top, shifted_capped, shifted_rooted}

-- hi becomes the lesser of it and the largest up
pub hi_lesser : (M : Setting) (t : ℕ → ℕ) (k : ℕ) (h : ℤ)
    → (next_hi M t k h ≤ℤ h) × (next_hi M t k h ≤ℤ largest_up M t k) × ((next_hi M t k h ≡ largest_up M t k) ⊎ (next_hi M t k h ≡ h))
unfolding next_hi
hi_lesser M t k h =
    let u = largest_up M t k in
    cond_both (lt_z u h) u h (λ r. (r ≤ℤ h) × (r ≤ℤ u) × ((r ≡ u) ⊎ (r ≡ h)))
    (λ e. (omega (arith, lin), omega (arith, lin), inl refl)) (λ e. (omega (arith, lin), omega (arith, lin), inr refl))

-- lo becomes the larger of it and the least down
pub lo_larger : (M : Setting) (t : ℕ → ℕ) (k : ℕ) (l : ℤ)
    → (l ≤ℤ next_lo M t k l) × (least_down M t k ≤ℤ next_lo M t k l) × ((next_lo M t k l ≡ least_down M t k) ⊎ (next_lo M t k l ≡ l))
unfolding next_lo
lo_larger M t k l =
    let d = least_down M t k in
    cond_both (lt_z l d) d l (λ r. (l ≤ℤ r) × (d ≤ℤ r) × ((r ≡ d) ⊎ (r ≡ l)))
    (λ e. (omega (arith, lin), omega (arith, lin), inl refl)) (λ e. (omega (arith, lin), omega (arith, lin), inr refl))

module _ (M : Setting) (k : ℕ) (B : Book) where
  abbrev t : ℕ → ℕ
  t = at B.vector

  -- lists by component: the number at k is new, the others stay
  pub hi_here : k < length B.hi → at_z (step M k B).hi k ≡ next_hi M t k (at_z B.hi k)
  unfolding step
  hi_here l = get_or-set_same B.hi k (next_hi M t k (at_z B.hi k)) (pos 0) l

  pub hi_other : (i : ℕ) → (i ≡ k → ⊥) → at_z (step M k B).hi i ≡ at_z B.hi i
  unfolding step
  hi_other i n = get_or-set_other B.hi k i (next_hi M t k (at_z B.hi k)) (pos 0) n

  pub lo_here : k < length B.lo → at_z (step M k B).lo k ≡ next_lo M t k (at_z B.lo k)
  unfolding step
  lo_here l = get_or-set_same B.lo k (next_lo M t k (at_z B.lo k)) (pos 0) l

  pub lo_other : (i : ℕ) → (i ≡ k → ⊥) → at_z (step M k B).lo i ≡ at_z B.lo i
  unfolding step
  lo_other i n = get_or-set_other B.lo k i (next_lo M t k (at_z B.lo k)) (pos 0) n

  -- lists by state
  abbrev pub rises : Bool
  rises = lt_z (at_z B.lo k) (least_down M (at B.vector) k)

  recorded_at : (s : ℕ) → s < M.table.states → at (step M k B).recorded s ≡ cond (states_of M.table k s && rises) (attains M t s) (at B.recorded s)
  unfolding step next_recorded
  recorded_at s h = tabulate_at M.table.states (next_recorded M t k (at_z B.lo k) (at B.recorded)) s 0 h

  pub recorded_here : rises ≡ true → (s : ℕ) → s < M.table.states → states_of M.table k s ≡ true → at (step M k B).recorded s ≡ attains M t s
  recorded_here f s h m =
      recorded_at s h ∙ cond-true (states_of M.table k s && rises) (attains M t s) (at B.recorded s) (and_from (states_of M.table k s) rises m f)

  pub recorded_other : (s : ℕ) → s < M.table.states → states_of M.table k s ≡ false → at (step M k B).recorded s ≡ at B.recorded s
  recorded_other s h m =
      recorded_at s h ∙ cond-false (states_of M.table k s && rises) (attains M t s) (at B.recorded s) (and_left (states_of M.table k s) rises m)

  pub recorded_same : rises ≡ false → (s : ℕ) → s < M.table.states → at (step M k B).recorded s ≡ at B.recorded s
  recorded_same f s h =
      recorded_at s h ∙ cond-false (states_of M.table k s && rises) (attains M t s) (at B.recorded s) (and_right (states_of M.table k s) rises f)

  vector_at : (s : ℕ) → s < M.table.states → at (step M k B).vector s ≡ cond (states_of M.table k s && not (held M t k)) (shifted M t k s) (t s)
  unfolding step next_vector
  vector_at s h = tabulate_at M.table.states (next_vector M t k) s 0 h

  pub vector_here : held M t k ≡ false → (s : ℕ) → s < M.table.states → states_of M.table k s ≡ true → at (step M k B).vector s ≡ shifted M t k s
  vector_here f s h m =
      vector_at s h ∙ cond-true (states_of M.table k s && not (held M t k)) (shifted M t k s) (t s)
      (and_from (states_of M.table k s) (not (held M t k)) m (not_from_false (held M t k) f))

  pub vector_other : (s : ℕ) → s < M.table.states → states_of M.table k s ≡ false → at (step M k B).vector s ≡ t s
  vector_other s h m =
      vector_at s h ∙ cond-false (states_of M.table k s && not (held M t k)) (shifted M t k s) (t s) (and_left (states_of M.table k s) (not (held M t k)) m)

  pub vector_held : held M t k ≡ true → (s : ℕ) → s < M.table.states → at (step M k B).vector s ≡ t s
  vector_held f s h =
      vector_at s h ∙ cond-false (states_of M.table k s && not (held M t k)) (shifted M t k s) (t s)
      (and_right (states_of M.table k s) (not (held M t k)) (not_from_true (held M t k) f))

  pub step_lengths : Lengths M B → Lengths M (step M k B)
  unfolding step
  step_lengths S = record {
    vector = tabulate_length M.table.states (next_vector M (at B.vector) k);
    recorded = tabulate_length M.table.states (next_recorded M (at B.vector) k (at_z B.lo k) (at B.recorded));
    lo = length-set B.lo k (next_lo M (at B.vector) k (at_z B.lo k)) ∙ S.lo;
    hi = length-set B.hi k (next_hi M (at B.vector) k (at_z B.hi k)) ∙ S.hi;
    x = S.x;
    y = S.y;
    plan = S.plan;
  }

module _ (M : Setting) (L : Lawful M.table) (k : ℕ) (known : k < components M.table) (B : Book) (S : Fit M B) where
  pub in_hi : k < length B.hi
  in_hi = let q = S.lengths.hi in let l = known in omega arith

  pub in_lo : k < length B.lo
  in_lo = let q = S.lengths.lo in let l = known in omega arith

  pub hi_falls : (i : ℕ) → i < components M.table → at_z (step M k B).hi i ≤ℤ at_z B.hi i
  hi_falls i l =
      ⊎_elim
      (λ (e : i ≡ k). rw e (rw (hi_here M k B in_hi) (hi_lesser M (at B.vector) k (at_z B.hi k)).0))
      (λ (n : i ≡ k → ⊥). let a = hi_other M k B i n in omega (arith, lin))
      (cases_eq i k)

  pub lo_rises : (i : ℕ) → i < components M.table → at_z B.lo i ≤ℤ at_z (step M k B).lo i
  lo_rises i l =
      ⊎_elim
      (λ (e : i ≡ k). rw e (rw (lo_here M k B in_lo) (lo_larger M (at B.vector) k (at_z B.lo k)).0))
      (λ (n : i ≡ k → ⊥). let a = lo_other M k B i n in omega (arith, lin))
      (cases_eq i k)

  -- the lists one by one

  pub step_vector : VectorFits M (at (step M k B).vector)
  step_vector =
      ⊎_elim
      (λ (f : held M (at B.vector) k ≡ true).
      let b : VectorFits M (at (step M k B).vector) = record {
        capped = λ s h. rw (vector_held M k B f s h) (S.vector.capped s h);
        rooted = λ i l. let x = S.vector.rooted i l in (x.0, x.1, x.2, vector_held M k B f x.0 x.1 ∙ x.3);
      } in
      b)
      (λ (f : held M (at B.vector) k ≡ false).
      let b : VectorFits M (at (step M k B).vector) = record {
        capped = λ s h.
            ⊎_elim
            (λ (m : states_of M.table k s ≡ true). rw (vector_here M k B f s h m) (shifted_capped M L (at B.vector) k s h m f))
            (λ (m : states_of M.table k s ≡ false). rw (vector_other M k B s h m) (S.vector.capped s h))
            (cases_Bool (states_of M.table k s));
        rooted = λ i l.
            ⊎_elim
            (λ (e : i ≡ k).
            let x = shifted_rooted M L (at B.vector) k known in
            (x.0, x.1, rw e x.2, vector_here M k B f x.0 x.1 x.2 ∙ x.3))
            (λ (n : i ≡ k → ⊥).
            let x = S.vector.rooted i l in
            (x.0, x.1, x.2, vector_other M k B x.0 x.1 (apart i n x.0 x.2) ∙ x.3))
            (cases_eq i k);
      } in
      b)
      (cases_Bool (held M (at B.vector) k))
    where
      apart : (i : ℕ) → (i ≡ k → ⊥) → (s : ℕ) → states_of M.table i s ≡ true → states_of M.table k s ≡ false
      apart i n s m =
          ⊎_elim
          (λ (e : states_of M.table k s ≡ true). absurd (n (sym (of_component M.table L i s m).1 ∙ (of_component M.table L k s e).1)))
          (λ (e : states_of M.table k s ≡ false). e)
          (cases_Bool (states_of M.table k s))

  pub step_recorded : RecordedFits M (at (step M k B).recorded)
  step_recorded s h =
      ⊎_elim
      (λ (m : states_of M.table k s ≡ true).
      ⊎_elim
      (λ (f : rises M k B ≡ true).
      rw (recorded_here M k B f s h m) (attains_names M L (at B.vector) k s (of_component M.table L k s m).0))
      (λ (f : rises M k B ≡ false). rw (recorded_same M k B f s h) (S.recorded s h))
      (cases_Bool (rises M k B)))
      (λ (m : states_of M.table k s ≡ false). rw (recorded_other M k B s h m) (S.recorded s h))
      (cases_Bool (states_of M.table k s))

  pub step_hi : Within M (components M.table) (at_z (step M k B).hi)
  step_hi i l = (
    ⊎_elim
        (λ (e : i ≡ k).
        let x = S.vector.rooted k known in
        let a = largest_bottom M L (at B.vector) k x.0 x.1 x.2 x.3 in
        let b = (S.hi k known).0 in
        rw e (rw (hi_here M k B in_hi)
        (⊎_elim
        (λ (q : next_hi M (at B.vector) k (at_z B.hi k) ≡ largest_up M (at B.vector) k). rw q a)
        (λ (q : next_hi M (at B.vector) k (at_z B.hi k) ≡ at_z B.hi k). rw q b)
        (hi_lesser M (at B.vector) k (at_z B.hi k)).2)))
        (λ (n : i ≡ k → ⊥). rw (hi_other M k B i n) (S.hi i l).0)
        (cases_eq i k),
    let a = hi_falls i l in let b = (S.hi i l).1 in omega (arith, lin),
  )

  pub step_lo : Within M (components M.table) (at_z (step M k B).lo)
  step_lo i l = (
    let a = lo_rises i l in let b = (S.lo i l).0 in omega (arith, lin),
    ⊎_elim
        (λ (e : i ≡ k).
        let a = least_top M L (at B.vector) k known in
        let b = (S.lo k known).1 in
        rw e (rw (lo_here M k B in_lo)
        (⊎_elim
        (λ (q : next_lo M (at B.vector) k (at_z B.lo k) ≡ least_down M (at B.vector) k). rw q a)
        (λ (q : next_lo M (at B.vector) k (at_z B.lo k) ≡ at_z B.lo k). rw q b)
        (lo_larger M (at B.vector) k (at_z B.lo k)).2)))
        (λ (n : i ≡ k → ⊥). rw (lo_other M k B i n) (S.lo i l).1)
        (cases_eq i k),
  )

  pub step_fit : Fit M (step M k B)
  unfolding step
  step_fit = record {
    lengths = step_lengths M k B S.lengths;
    vector = step_vector;
    recorded = step_recorded;
    lo = step_lo;
    hi = step_hi;
    x = S.x;
    y = S.y;
    plan = S.plan;
  }
