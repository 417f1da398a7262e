-- When refines and sweeps end.
use Rattle.std.proofs.Common.{◌≡◌, ℕ, zero, suc, ◌<◌, ◌≤◌, Bool, true, false, ◌&&◌, sym, refl, ap, ◌∙◌, inl, inr, ⊎_elim, arith}
use Rattle.std.proofs.lemmas.Bool.{cases_lt, both_ways, and_parts, and_from}
use Rattle.horizon.specs.Ring.{lin}
use Rattle.components.specs.Nodes.{nodes}
use Rattle.components.proofs.Below.{every_at, every_from}
use Rattle.rules.specs.Setting.{Setting}
use Rattle.rules.specs.Choosing.{at, at_z, eq_z}
use Rattle.rules.specs.Book.{Book}
use Rattle.rules.specs.Refine.{Refined, narrow, held, step, refine}
use Rattle.rules.specs.Sweep.{Swept, sweep, still, sweeps}
use Rattle.rules.specs.Meaning.{TheOnly, stepped, HeldAfter, NarrowAfter, RefineLaw, swept_times, Unaltered, SweepsLaw}
use Rattle.rules.proofs.Order.{eq_z_true, eq_z_from}
use Rattle.rules.proofs.Same.{same_refined, same_swept}

module _ (M : Setting) (k width : ℕ) where
  -- no steps are asked, or the book is narrow
  none_made : (n : ℕ) (B : Book) → (0 < n → narrow width k B ≡ true) → RefineLaw M k n width B (record { book = B; made = 0 })
  unfolding stepped
  none_made n B e = record {
    book = refl;
    most = omega arith;
    wide = λ j l w. let z : ⊥ = omega arith in z;
    free = λ j l w. let z : ⊥ = omega arith in z;
    early = λ l. inl (let f = e l in omega (arith, lin));
  }

  held_made : (n : ℕ) (B : Book) → narrow width k B ≡ false → held M (at B.vector) k ≡ true
      → RefineLaw M k (suc n) width B (record { book = step M k B; made = 1 })
  unfolding stepped
  held_made n B f h = record {
    book = refl;
    most = omega arith;
    wide = wide;
    free = λ j l w. let z : ⊥ = omega arith in z;
    early = λ l. inr (0, refl, h);
  }
    where
      wide : (j : ℕ) → j < 1 → NarrowAfter M width k j B → ⊥
      wide zero l w = let z : ⊥ = omega (arith, lin) in z
      wide (suc j) l w = let z : ⊥ = omega arith in z

  more_made : (n : ℕ) (B : Book) (r : Refined) → narrow width k B ≡ false → held M (at B.vector) k ≡ false
      → RefineLaw M k n width (step M k B) r → RefineLaw M k (suc n) width B (record { book = r.book; made = suc r.made })
  unfolding stepped
  more_made n B r f h w = record {
    book = w.book;
    most = let m = w.most in omega arith;
    wide = wide;
    free = free;
    early = λ l. elim (w.early (omega arith)) [ inl x ↦ inl x | inr x ↦ inr (suc x.0, ap suc x.1, x.2) ];
  }
    where
      wide : (j : ℕ) → j < suc r.made → NarrowAfter M width k j B → ⊥
      wide zero l x = let z : ⊥ = omega (arith, lin) in z
      wide (suc j) l x = w.wide j (omega arith) x

      free : (j : ℕ) → suc j < suc r.made → HeldAfter M k j B → ⊥
      free zero l x = both_ways (held M (at B.vector) k) h x
      free (suc j) l x = w.free j (omega arith) x

  refine_law : (n : ℕ) (B : Book) → RefineLaw M k n width B (refine M k n width B)
  unfolding refine
  refine_law zero B = none_made 0 B (λ l. let z : ⊥ = omega arith in absurd z)
  refine_law (suc n) B = at_narrow (refine_law n (step M k B)) (narrow width k B) refl
    where
      at_held : RefineLaw M k n width (step M k B) (refine M k n width (step M k B)) → narrow width k B ≡ false → (h : Bool) → held M (at B.vector) k ≡ h
          → RefineLaw M k (suc n) width B (elim h as (λ _. Refined) [
            | true ↦ record { book = step M k B; made = 1 }
            | false ↦ (let r = refine M k n width (step M k B) in record { book = r.book; made = suc r.made })
          ])
      at_held w f true h = held_made n B f h
      at_held w f false h = more_made n B (refine M k n width (step M k B)) f h w

      at_narrow : RefineLaw M k n width (step M k B) (refine M k n width (step M k B)) → (a : Bool) → narrow width k B ≡ a
          → RefineLaw M k (suc n) width B (elim a as (λ _. Refined) [
            | true ↦ record { book = B; made = 0 }
            | false ↦ elim (held M (at B.vector) k) [
              | true ↦ record { book = step M k B; made = 1 }
              | false ↦ (let r = refine M k n width (step M k B) in record { book = r.book; made = suc r.made })
            ]
          ])
      at_narrow w true f = none_made (suc n) B (λ _. f)
      at_narrow w false f = at_held w f (held M (at B.vector) k) refl

  module _ (n : ℕ) (B : Book) where
    -- of two ends by the law none comes sooner
    no_sooner : (a b : Refined) → RefineLaw M k n width B a → RefineLaw M k n width B b → a.made < b.made → ⊥
    no_sooner a b P Q l =
        let m = Q.most in
        elim (P.early (omega arith)) [
          | inl x ↦ Q.wide a.made l x
          | inr x ↦ (let e = x.1 in Q.free x.0 (omega arith) x.2)
        ]

    same_end : (a b : Refined) → RefineLaw M k n width B a → RefineLaw M k n width B b → a ≡ b
    same_end a b P Q =
        let e : a.made ≡ b.made =
        ⊎_elim
        (λ (l : a.made < b.made). absurd (no_sooner a b P Q l))
        (λ (l : b.made ≤ a.made).
        ⊎_elim (λ (g : b.made < a.made). absurd (no_sooner b a Q P g)) (λ (g : a.made ≤ b.made). omega arith) (cases_lt b.made a.made))
        (cases_lt a.made b.made) in
        same_refined a b (P.book ∙ ap (λ (j : ℕ). stepped M k j B) e ∙ sym Q.book) e

    pub the_refine : TheOnly (RefineLaw M k n width B) (refine M k n width B)
    the_refine = record { has = refine_law n B; only = λ r w. same_end r (refine M k n width B) w (refine_law n B) }

-- `still` is true exactly if no x or y differs
still_true : (M : Setting) (A B : Book) → still M A B ≡ true → Unaltered M A B
unfolding still
still_true M A B e v l =
    let a = eq_z (at_z A.x v) (at_z B.x v) in
    let b = eq_z (at_z A.y v) (at_z B.y v) in
    let w = and_parts a b (every_at (nodes M.table) (λ u. eq_z (at_z A.x u) (at_z B.x u) && eq_z (at_z A.y u) (at_z B.y u)) e v l) in
    (eq_z_true (at_z A.x v) (at_z B.x v) w.0, eq_z_true (at_z A.y v) (at_z B.y v) w.1)

still_from : (M : Setting) (A B : Book) → Unaltered M A B → still M A B ≡ true
unfolding still
still_from M A B w =
    every_from (nodes M.table) (λ u. eq_z (at_z A.x u) (at_z B.x u) && eq_z (at_z A.y u) (at_z B.y u))
    (λ v l. and_from (eq_z (at_z A.x v) (at_z B.x v)) (eq_z (at_z A.y v) (at_z B.y v))
    (eq_z_from (at_z A.x v) (at_z B.x v) (w v l).0) (eq_z_from (at_z A.y v) (at_z B.y v) (w v l).1))

module _ (M : Setting) where
  still_made : (n : ℕ) (B : Book) → still M B (sweep M B) ≡ true → SweepsLaw M (suc n) B (record { book = sweep M B; made = 1 })
  unfolding swept_times
  still_made n B e = record {
    book = refl;
    most = omega arith;
    alters = λ j l w. let z : ⊥ = omega arith in z;
    early = λ l. (0, refl, still_true M B (sweep M B) e);
  }

  altered_made : (n : ℕ) (B : Book) (r : Swept) → still M B (sweep M B) ≡ false → SweepsLaw M n (sweep M B) r
      → SweepsLaw M (suc n) B (record { book = r.book; made = suc r.made })
  unfolding swept_times
  altered_made n B r e w = record {
    book = w.book;
    most = let m = w.most in omega arith;
    alters = alters;
    early = λ l. let x = w.early (omega arith) in (suc x.0, ap suc x.1, x.2);
  }
    where
      alters : (j : ℕ) → suc j < suc r.made → Unaltered M (swept_times M j B) (swept_times M (suc j) B) → ⊥
      alters zero l x = both_ways (still M B (sweep M B)) e (still_from M B (sweep M B) x)
      alters (suc j) l x = w.alters j (omega arith) x

  sweeps_law : (n : ℕ) (B : Book) → SweepsLaw M n B (sweeps M n B)
  unfolding sweeps swept_times
  sweeps_law zero B = record {
    book = refl;
    most = omega arith;
    alters = λ j l w. let z : ⊥ = omega arith in z;
    early = λ l. let z : ⊥ = omega arith in absurd z;
  }
  sweeps_law (suc n) B = at_still (sweeps_law n (sweep M B)) (still M B (sweep M B)) refl
    where
      at_still : SweepsLaw M n (sweep M B) (sweeps M n (sweep M B)) → (a : Bool) → still M B (sweep M B) ≡ a
          → SweepsLaw M (suc n) B (elim a as (λ _. Swept) [
            | true ↦ record { book = sweep M B; made = 1 }
            | false ↦ (let r = sweeps M n (sweep M B) in record { book = r.book; made = suc r.made })
          ])
      at_still w true e = still_made n B e
      at_still w false e = altered_made n B (sweeps M n (sweep M B)) e w

  module _ (n : ℕ) (B : Book) where
    fewer_sweeps : (a b : Swept) → SweepsLaw M n B a → SweepsLaw M n B b → a.made < b.made → ⊥
    fewer_sweeps a b P Q l =
        let m = Q.most in
        let x = P.early (omega arith) in
        let e = x.1 in
        Q.alters x.0 (omega arith) x.2

    same_sweeps : (a b : Swept) → SweepsLaw M n B a → SweepsLaw M n B b → a ≡ b
    same_sweeps a b P Q =
        let e : a.made ≡ b.made =
        ⊎_elim
        (λ (l : a.made < b.made). absurd (fewer_sweeps a b P Q l))
        (λ (l : b.made ≤ a.made).
        ⊎_elim (λ (g : b.made < a.made). absurd (fewer_sweeps b a Q P g)) (λ (g : a.made ≤ b.made). omega arith) (cases_lt b.made a.made))
        (cases_lt a.made b.made) in
        same_swept a b (P.book ∙ ap (λ (j : ℕ). swept_times M j B) e ∙ sym Q.book) e

    pub the_sweeps : TheOnly (SweepsLaw M n B) (sweeps M n B)
    the_sweeps = record { has = sweeps_law n B; only = λ r w. same_sweeps r (sweeps M n B) w (sweeps_law n B) }
