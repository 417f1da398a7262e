-- The best inside choice: steps of the search for it.
use Rattle.std.proofs.Common.{◌≡◌, ℕ, zero, suc, ◌+◌, ◌<◌, Bool, true, false, ◌&&◌, ℤ, ◌≤ℤ◌, ◌<ℤ◌, Some, None, Option, sym, refl, ap, ◌∙◌, subst, ap₂, inl, inr, add-one, arith}
use lib.Signed.{lt_z}
use Rattle.std.proofs.lemmas.Bool.{and_from, and_parts, both_ways, cases_Bool, cases_eq, cases_lt, cond-true, cond-false}
use Rattle.table.specs.Table.{Table}
use Rattle.horizon.specs.Ring.{lin, le_same}
use Rattle.components.specs.Below.{first}
use Rattle.components.specs.Inside.{inside}
use Rattle.components.proofs.Below.{first_le, first_at}
use Rattle.rules.specs.Choosing.{eq_z, largest}
use Rattle.rules.proofs.Choosing.{largest_bound, largest_reached}
use Rattle.rules.proofs.Order.{eq_z_true, eq_z_from}
use Rattle.rules.specs.Sweep.{better}
use Rattle.rules.specs.declared.exit.Candidate.{Candidate}
use Rattle.rules.specs.declared.exit.Exit.TheVariants.{Leave}
use Rattle.book.specs.Inside.{over_inside}

abbrev pub by_choice : ℕ → ℕ → ℤ → Candidate
by_choice s c z = record { value = z; exit = Leave s c }

module _ (T : Table) (f : ℕ → ℤ) (s n : ℕ) (a : Option Candidate) (so_far : a ≡ over_inside T f s n) where
  -- one more choice that is inside
  pub more_inside : (z : ℤ) → inside T s n ≡ true → z ≡ f n → better a (by_choice s n z) ≡ over_inside T f s (n + 1)
  more_inside z i e =
      rw add-one
      (ap₂ (λ (b : Option Candidate) (y : ℤ). better b (by_choice s n y)) so_far e
      ∙ sym (cond-true (inside T s n) (better (over_inside T f s n) (by_choice s n (f n))) (over_inside T f s n) i))

  -- one more choice that leaves
  pub more_leaving : inside T s n ≡ false → a ≡ over_inside T f s (n + 1)
  more_leaving i = rw add-one (so_far ∙ sym (cond-false (inside T s n) (better (over_inside T f s n) (by_choice s n (f n))) (over_inside T f s n) i))

-- What the search finds: the first inside choice with the largest number

module _ (T : Table) (f : ℕ → ℤ) (s : ℕ) where
  -- a candidate is the first of the largest among the inside choices below n
  record First (n : ℕ) (a : Candidate) : Type 0 where
    choice : ℕ
    below : choice < n
    here : inside T s choice ≡ true
    is : a ≡ by_choice s choice (f choice)
    bounds : (i : ℕ) → i < n → inside T s i ≡ true → f i ≤ℤ f choice
    first_one : (i : ℕ) → i < choice → inside T s i ≡ true → f i <ℤ f choice

  Found : ℕ → Option Candidate → Type 0
  Found n None = (i : ℕ) → i < n → inside T s i ≡ true → ⊥
  Found n (Some a) = First n a

  found_more : (n : ℕ) (b : Option Candidate) → Found n b → inside T s n ≡ true → Found (suc n) (better b (by_choice s n (f n)))
  unfolding Found
  found_more n None none i = record {
    choice = n;
    below = omega arith;
    here = i;
    is = refl;
    bounds = λ j l q. elim (cases_eq j n) [ inl e ↦ le_same (f j) (f n) (ap f e) | inr e ↦ absurd (none j (omega arith) q) ];
    first_one = λ j l q. absurd (none j l q);
  }
  found_more n (Some a) w i =
      let v : a.value ≡ f w.choice = ap (λ (x : Candidate). x.value) w.is in
      elim (cases_Bool (lt_z a.value (f n))) [
        | inl e ↦ subst (Found (suc n)) (sym (cond-true (lt_z a.value (f n)) (Some (by_choice s n (f n))) (Some a) e)) (record {
          choice = n;
          below = omega arith;
          here = i;
          is = refl;
          bounds = λ j l q. elim (cases_eq j n) [
            | inl g ↦ le_same (f j) (f n) (ap f g)
            | inr g ↦ (let b = w.bounds j (omega arith) q in omega (arith, lin))
          ];
          first_one = λ j l q. (let b = w.bounds j l q in omega (arith, lin));
        })
        | inr e ↦ subst (Found (suc n)) (sym (cond-false (lt_z a.value (f n)) (Some (by_choice s n (f n))) (Some a) e)) (record {
          choice = w.choice;
          below = (let b = w.below in omega arith);
          here = w.here;
          is = w.is;
          bounds = λ j l q. elim (cases_eq j n) [
            | inl g ↦ (let h = ap f g in omega (arith, lin))
            | inr g ↦ w.bounds j (omega arith) q
          ];
          first_one = w.first_one;
        })
      ]

  found_skip : (n : ℕ) (b : Option Candidate) → Found n b → inside T s n ≡ false → Found (suc n) b
  unfolding Found
  found_skip n None none o = λ i l q. elim (cases_eq i n) [ inl e ↦ both_ways (inside T s n) o (sym (ap (inside T s) e) ∙ q) | inr e ↦ none i (omega arith) q ]
  found_skip n (Some a) w o = record {
    choice = w.choice;
    below = (let b = w.below in omega arith);
    here = w.here;
    is = w.is;
    bounds = λ i l q. elim (cases_eq i n) [ inl e ↦ absurd (both_ways (inside T s n) o (sym (ap (inside T s) e) ∙ q)) | inr e ↦ w.bounds i (omega arith) q ];
    first_one = w.first_one;
  }

  found : (n : ℕ) → Found n (over_inside T f s n)
  unfolding Found
  found zero = λ i l q. omega arith
  found (suc n) =
      let b = over_inside T f s n in
      elim (cases_Bool (inside T s n)) [
        | inl i ↦ subst (Found (suc n)) (sym (cond-true (inside T s n) (better b (by_choice s n (f n))) b i)) (found_more n b (found n) i)
        | inr o ↦ subst (Found (suc n)) (sym (cond-false (inside T s n) (better b (by_choice s n (f n))) b o)) (found_skip n b (found n) o)
      ]

  -- that number is the largest, and that choice the first that attains it
  abbrev pub attaining : ℕ → ℕ
  attaining n = first n (λ c. inside T s c && eq_z (f c) (largest n (inside T s) f))

  first_is_best : (n : ℕ) (a : Candidate) → First n a → a ≡ by_choice s (attaining n) (largest n (inside T s) f)
  first_is_best n a w =
      let m = largest n (inside T s) f in
      let k = w.choice in
      let up = largest_bound n (inside T s) f k w.below w.here in
      let r = largest_reached n (inside T s) f k w.below w.here in
      let down = w.bounds r.0 r.1 r.2 in
      let same : f k ≡ m = (let e = r.3 in omega (arith, lin)) in
      let p : ℕ → Bool = λ c. inside T s c && eq_z (f c) m in
      let passes : p k ≡ true = and_from (inside T s k) (eq_z (f k) m) w.here (eq_z_from (f k) m same) in
      let j = first n p in
      let low = first_le n p k passes in
      let at = and_parts (inside T s j) (eq_z (f j) m) (first_at n p k w.below passes) in
      let eq = eq_z_true (f j) m at.1 in
      let one : k ≡ j = elim (cases_lt j k) [
        | inl l ↦ (let g = w.first_one j l at.0 in absurd (omega (arith, lin)))
        | inr l ↦ omega arith
      ] in
      w.is ∙ ap₂ (λ (c : ℕ) (z : ℤ). by_choice s c z) one same

  -- of a state with an inside choice
  pub inside_best : (n i : ℕ) → i < n → inside T s i ≡ true → over_inside T f s n ≡ Some (by_choice s (attaining n) (largest n (inside T s) f))
  unfolding Found
  inside_best n i l q = go (over_inside T f s n) (found n)
    where
      go : (b : Option Candidate) → Found n b → b ≡ Some (by_choice s (attaining n) (largest n (inside T s) f))
      go None none = absurd (none i l q)
      go (Some a) w = ap Some (first_is_best n a w)
