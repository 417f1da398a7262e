-- Layers settle after as many steps as there are numbers, and each step from a layer goes to a lower one
use Rattle.std.proofs.Common.{◌≡◌, ℕ, zero, suc, ◌+◌, ◌<◌, ◌≤◌, Bool, true, false, not, ltb, ◌⊎◌, refl, inl, inr, ⊎_elim, arith}
use Rattle.std.proofs.lemmas.Bool.{cases_Bool, cases_lt, both_ways, or_cases, or_left, or_right, not-true, not_from_true, not_from_false, lt-ltb, cond_both}
use Rattle.components.specs.Below.{count, first}
use Rattle.components.proofs.Below.{count_lt, count_most, first_le, first_at}
use Rattle.components.proofs.Settles.{settles}
use Rattle.rules.specs.Layers.{layer, level}

pub first_most : (n : ℕ) (p : ℕ → Bool) → first n p ≤ n
unfolding first
first_most zero p = omega arith
first_most (suc n) p =
    cond_both (p 0) 0 (suc (first n (λ j. p (suc j)))) (λ x. x ≤ suc n) (λ _. omega arith)
    (λ _. let u = first_most n (λ j. p (suc j)) in omega arith)

module _ (n : ℕ) (goal : ℕ → Bool) (back : (ℕ → Bool) → ℕ → Bool)
    (mono : (P Q : ℕ → Bool) → ((u : ℕ) → u < n → P u ≡ true → Q u ≡ true) → (s : ℕ) → s < n → back P s ≡ true → back Q s ≡ true) where
  abbrev at : ℕ → ℕ → Bool
  at k = layer goal back k

  more : (k s : ℕ) → at k s ≡ true → at (suc k) s ≡ true
  unfolding layer
  more k s e = or_left (at k s) (back (at k) s) e

  pub steps : (k s : ℕ) → back (at k) s ≡ true → at (suc k) s ≡ true
  unfolding layer
  steps k s e = or_right (at k s) (back (at k) s) e

  Settled : ℕ → Type 0
  Settled k = (s : ℕ) → s < n → at (suc k) s ≡ true → at k s ≡ true

  far : ℕ → ℕ
  far k = count n (λ s. not (at k s))

  fewer : (k s : ℕ) → not (at (suc k) s) ≡ true → not (at k s) ≡ true
  fewer k s e =
      ⊎_elim
      (λ (f : at k s ≡ true). absurd (both_ways (at (suc k) s) (not-true (at (suc k) s) e) (more k s f)))
      (not_from_false (at k s))
      (cases_Bool (at k s))

  turn : (k : ℕ) → Settled k ⊎ (far (suc k) < far k)
  unfolding Settled far
  turn k =
      ⊎_elim
      (λ (l : far (suc k) < far k). inr l)
      (λ (g : far k ≤ far (suc k)).
      inl (λ s h e.
      ⊎_elim
      (λ (f : at k s ≡ true). f)
      (λ (f : at k s ≡ false).
      let l = count_lt n (λ u. not (at (suc k) u)) (λ u. not (at k u)) (λ u _. fewer k u) s h (not_from_true (at (suc k) s) e) (not_from_false (at k s) f) in
      absurd (omega arith))
      (cases_Bool (at k s))))
      (cases_lt (far (suc k)) (far k))

  still : (k : ℕ) → Settled k → Settled (suc k)
  unfolding Settled layer
  still k w s h e =
      ⊎_elim
      (λ (f : at (suc k) s ≡ true). f)
      (λ (f : back (at (suc k)) s ≡ true). or_right (at k s) (back (at k) s) (mono (at (suc k)) (at k) w s h f))
      (or_cases (at (suc k) s) (back (at (suc k)) s) e)

  settled : (k : ℕ) → n ≤ k → Settled k
  unfolding far
  settled k l =
      settles far Settled turn still k
      (let a = count_most n (λ s. not (at 0 s)) in omega arith)

  -- what is in some layer is in the last
  later : (j s : ℕ) → s < n → at (n + j) s ≡ true → at n s ≡ true
  unfolding Settled
  later zero s h e = let q : n + 0 ≡ n = omega arith in rw q at e
  later (suc j) s h e =
      let q : n + suc j ≡ suc (n + j) = omega arith in
      later j s h (settled (n + j) (omega arith) s h (rw q at e))

  grow : (j k s : ℕ) → at k s ≡ true → at (j + k) s ≡ true
  grow zero k s e = let q : 0 + k ≡ k = omega arith in rw q e
  grow (suc j) k s e = let q : suc j + k ≡ suc (j + k) = omega arith in rw q (more (j + k) s (grow j k s e))

  pub reached : (k s : ℕ) → s < n → at k s ≡ true → at n s ≡ true
  reached k s h e = later k s h (grow n k s e)

  pub level_most : (s : ℕ) → level n goal back s ≤ suc n
  unfolding level
  level_most s = first_most (suc n) (λ k. at k s)

  pub level_low : (k s : ℕ) → s < n → at k s ≡ true → level n goal back s ≤ n
  unfolding level
  level_low k s h e = first_le (suc n) (λ i. at i s) n (reached k s h e)

  pub level_goal : (s : ℕ) → goal s ≡ true → level n goal back s ≡ 0
  unfolding level layer
  level_goal s e = let a = first_le (suc n) (λ i. at i s) 0 e in omega arith

  pub level_in : (k s : ℕ) → s < n → at k s ≡ true → at (level n goal back s) s ≡ true
  unfolding level
  level_in k s h e = first_at (suc n) (λ i. at i s) n (omega arith) (reached k s h e)

  pub level_least : (k s : ℕ) → at k s ≡ true → level n goal back s ≤ k
  unfolding level
  level_least k s e = first_le (suc n) (λ i. at i s) k e

  falls_at : (j s : ℕ) → s < n → level n goal back s ≡ j → at j s ≡ true → goal s ≡ false
      → back (λ u. ltb (level n goal back u) (level n goal back s)) s ≡ true
  unfolding layer
  falls_at zero s h q e g = absurd (both_ways (goal s) g e)
  falls_at (suc j) s h q e g =
      ⊎_elim
      (λ (f : at j s ≡ true). let l = level_least j s f in absurd (omega arith))
      (λ (f : back (at j) s ≡ true).
      mono (at j) (λ u. ltb (level n goal back u) (level n goal back s))
      (λ u hu eu. lt-ltb (level n goal back u) (level n goal back s) (let l = level_least j u eu in omega arith)) s h f)
      (or_cases (at j s) (back (at j) s) e)

  -- a step to a lower level
  pub level_falls : (k s : ℕ) → s < n → at k s ≡ true → goal s ≡ false
      → back (λ u. ltb (level n goal back u) (level n goal back s)) s ≡ true
  level_falls k s h e g = falls_at (level n goal back s) s h refl (level_in k s h e) g
