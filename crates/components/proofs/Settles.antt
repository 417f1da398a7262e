-- What falls until it settles, and where a relation leads to in the end.
use Rattle.std.proofs.Common.{◌≡◌, ℕ, zero, suc, ◌+◌, ◌<◌, ◌≤◌, Bool, true, false, ◌⊎◌, inl, inr, ⊎_elim, arith}
use Rattle.std.proofs.lemmas.Bool.{cases_Bool, cases_eq, both_ways}

-- what falls until it settles has settled after as many turns as its start
module _ (f : ℕ → ℕ) (Settled : ℕ → Type 0)
    (turn : (k : ℕ) → Settled k ⊎ (f (suc k) < f k)) (stays : (k : ℕ) → Settled k → Settled (suc k)) where
  falls : (k : ℕ) → Settled k ⊎ (f k + k ≤ f 0)
  falls zero = inr (omega arith)
  falls (suc k) =
      ⊎_elim
      (λ (d : Settled k). inl (stays k d))
      (λ (h : f k + k ≤ f 0).
      ⊎_elim
      (λ (d : Settled k). inl (stays k d))
      (λ (l : f (suc k) < f k). inr (omega arith))
      (turn k))
      (falls k)

  pub settles : (k : ℕ) → f 0 ≤ k → Settled k
  settles k l =
      ⊎_elim
      (λ (d : Settled k). d)
      (λ (h : f k + k ≤ f 0).
      ⊎_elim (λ (d : Settled k). d) (λ (m : f (suc k) < f k). absurd (omega arith)) (turn k))
      (falls k)

-- a reflexive and transitive relation leads from each number below n to one that leads only to what leads back
module _ (n : ℕ) (P : ℕ → ℕ → Bool) (loops : (s : ℕ) → s < n → P s s ≡ true)
    (joins : (s t u : ℕ) → s < n → t < n → u < n → P s t ≡ true → P t u ≡ true → P s u ≡ true) where
  bottom_up_to : (i : ℕ) → i ≤ n → (s : ℕ) → s < n
      → (m : ℕ) × (m < n) × (P s m ≡ true) × ((t : ℕ) → t < i → P m t ≡ true → P t m ≡ true)
  bottom_up_to zero l s h = (s, h, loops s h, λ t k e. absurd (let z : t < 0 = k in omega arith))
  bottom_up_to (suc i) l s h =
      let r = bottom_up_to i (omega arith) s h in
      let m = r.0 in
      ⊎_elim
      (λ (e : P i m ≡ true). (m, r.1, r.2, λ t k f. at m r.3 (λ _. e) t k f))
      (λ (e : P i m ≡ false).
      ⊎_elim
      (λ (f : P m i ≡ true). (
        i,
        l,
        joins s m i h r.1 l r.2 f,
        λ t k g. at i (λ u v w. joins u m i (omega arith) r.1 l (r.3 u v (joins m i u r.1 l (omega arith) f w)) f) (λ w. w) t k g,
      ))
      (λ (f : P m i ≡ false). (m, r.1, r.2, λ t k g. at m r.3 (λ w. absurd (both_ways (P m i) f w)) t k g))
      (cases_Bool (P m i)))
      (cases_Bool (P i m))
    where
      at : (m : ℕ) → ((t : ℕ) → t < i → P m t ≡ true → P t m ≡ true) → (P m i ≡ true → P i m ≡ true)
          → (t : ℕ) → t < suc i → P m t ≡ true → P t m ≡ true
      at m old new t k e =
          ⊎_elim
          (λ (q : t ≡ i). rw q (new (rw q at e)))
          (λ (q : t ≡ i → ⊥). old t (omega arith) e)
          (cases_eq t i)

  pub bottom : (s : ℕ) → s < n → (m : ℕ) × (m < n) × (P s m ≡ true) × ((t : ℕ) → t < n → P m t ≡ true → P t m ≡ true)
  bottom s h = bottom_up_to n (omega arith) s h
