-- The largest and the least bound what they are of, and are reached
use Rattle.std.proofs.Common.{◌≡◌, ℕ, zero, suc, ◌<◌, Bool, true, false, ◌&&◌, ◌⊎◌, ℤ, neg_ℤ, ◌≤ℤ◌, refl, inl, inr, ⊎_elim, arith}
use lib.Signed.{lt_z}
use Rattle.std.proofs.lemmas.Bool.{cases_eq, and_parts, and_cases, both_ways, cond_both}
use Rattle.components.specs.Below.{first}
use Rattle.components.proofs.Below.{first_le, first_at}
use Rattle.rules.specs.Choosing.{largest_from, largest, smallest}
use Rattle.horizon.specs.Ring.{lin}

module _ (p : ℕ → Bool) (f : ℕ → ℤ) (z : ℤ) where
  -- one more number
  more_bounds : (n : ℕ) → (largest_from z n p f ≤ℤ largest_from z (suc n) p f) × (p n ≡ true → f n ≤ℤ largest_from z (suc n) p f)
  more_bounds n =
      let m = largest_from z n p f in
      cond_both (p n && lt_z m (f n)) (f n) m (λ r. (m ≤ℤ r) × (p n ≡ true → f n ≤ℤ r))
      (λ e. let w = and_parts (p n) (lt_z m (f n)) e in let l = w.1 in (omega (arith, lin), λ _. omega (arith, lin)))
      (λ e. (
        omega (arith, lin),
        λ q.
            ⊎_elim (λ (a : p n ≡ false). absurd (both_ways (p n) a q)) (λ (a : lt_z m (f n) ≡ false). omega (arith, lin))
            (and_cases (p n) (lt_z m (f n)) e),
      ))

  Reached : ℕ → ℤ → Type 0
  Reached n r = (r ≡ z) ⊎ ((j : ℕ) × (j < n) × (p j ≡ true) × (r ≡ f j))

  from_bound : (n i : ℕ) → i < n → p i ≡ true → f i ≤ℤ largest_from z n p f
  from_bound zero i h e = absurd (let z : i < 0 = h in omega arith)
  from_bound (suc n) i h e =
      let b = more_bounds n in
      let b0 = b.0 in
      ⊎_elim
      (λ (q : i ≡ n). rw q (b.1 (rw q at e)))
      (λ (q : i ≡ n → ⊥). let u = from_bound n i (omega arith) e in omega (arith, lin))
      (cases_eq i n)

  later : (n : ℕ) (r : ℤ) → Reached n r → Reached (suc n) r
  unfolding Reached
  later n r w = elim w [ inl e ↦ inl e | inr x ↦ inr (x.0, (let l = x.1 in omega arith), x.2, x.3) ]

  from_reached : (n : ℕ) → Reached n (largest_from z n p f)
  unfolding Reached
  from_reached zero = inl refl
  from_reached (suc n) =
      let m = largest_from z n p f in
      cond_both (p n && lt_z m (f n)) (f n) m (λ r. (r ≡ z) ⊎ ((j : ℕ) × (j < suc n) × (p j ≡ true) × (r ≡ f j)))
      (λ e. inr (n, omega arith, (and_parts (p n) (lt_z m (f n)) e).0, refl))
      (λ e. later n m (from_reached n))

module _ (n : ℕ) (p : ℕ → Bool) (f : ℕ → ℤ) where
  pub largest_bound : (i : ℕ) → i < n → p i ≡ true → f i ≤ℤ largest n p f
  unfolding largest
  largest_bound i h e = from_bound p f (f (first n p)) n i h e

  pub largest_reached : (i : ℕ) → i < n → p i ≡ true → (j : ℕ) × (j < n) × (p j ≡ true) × (largest n p f ≡ f j)
  unfolding largest Reached
  largest_reached i h e =
      elim (from_reached p f (f (first n p)) n) [
        | inl q ↦ (first n p, (let l = first_le n p i e in omega arith), first_at n p i h e, q)
        | inr x ↦ x
      ]

module _ (n : ℕ) (p : ℕ → Bool) (f : ℕ → ℤ) where
  pub smallest_bound : (i : ℕ) → i < n → p i ≡ true → smallest n p f ≤ℤ f i
  unfolding smallest
  smallest_bound i h e = let u = largest_bound n p (λ j. neg_ℤ (f j)) i h e in omega (arith, lin)

  pub smallest_reached : (i : ℕ) → i < n → p i ≡ true → (j : ℕ) × (j < n) × (p j ≡ true) × (smallest n p f ≡ f j)
  unfolding smallest
  smallest_reached i h e =
      let x = largest_reached n p (λ j. neg_ℤ (f j)) i h e in
      let q = x.3 in
      (x.0, x.1, x.2, omega (arith, lin))
