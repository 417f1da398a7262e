-- A band within its limits has a lawful table.
use Rattle.std.proofs.Common.{◌≡◌, ℕ, zero, suc, ◌+◌, ◌-◌, ◌*◌, ◌<◌, ◌≤◌, true, cond, ◌&&◌, eqb, ltb, leb, List, [], ◌∷◌, length, get_or, ℤ, pos, neg_ℤ, ◌≤ℤ◌, sym, refl, subst, inl, inr, arith}
use Rattle.std.proofs.lemmas.Nat.{mul-le}
use Rattle.std.proofs.ByRecursion.{All-get_or}
use Rattle.std.proofs.lemmas.Int.{ints}
use Rattle.std.proofs.lemmas.Bool.{and_parts, cases_eq, cond-true, cond-false, eq-eqb, leb-true, lt-ltb, ne_eqb}
use Rattle.std.specs.List.{AllByRecursion}
use Rattle.table.specs.Sums.{sum_n}
use Rattle.table.specs.Limits.{Lawful}
use Rattle.sources.specs.Bands.{band_within, band_states, band_choices, distance, cost_at, holding, moves_at, band_moves, band_table}

-- where a branch of a list leads, and its weight
abbrev to : List (ℕ × ℕ) → ℕ → ℕ
to xs i = (get_or {A = ℕ × ℕ} xs i (0, 0)).0

abbrev by : List (ℕ × ℕ) → ℕ → ℕ
by xs i = (get_or {A = ℕ × ℕ} xs i (0, 0)).1

-- a choice's branches: not too many, to states below n, of some weight, to different states, and of total weight 4
record Sound (n : ℕ) (xs : List (ℕ × ℕ)) : Type 0 where
  few : (1 ≤ length xs) × (length xs ≤ 8)
  inside : (i : ℕ) → i < length xs → to xs i < n
  weighty : (i : ℕ) → i < length xs → 1 ≤ by xs i
  apart : (i : ℕ) → i < length xs → (a : ℕ) → a < i → to xs a ≡ to xs i → ⊥
  total : sum_n (length xs) (by xs) ≡ 4

-- one, two and three branches
apart_3 : (u v w : ℕ) (p q r : ℕ) → u < v → v < w → (i : ℕ) → i < 3 → (a : ℕ) → a < i
    → to ((u, p) ∷ (v, q) ∷ (w, r) ∷ []) a ≡ to ((u, p) ∷ (v, q) ∷ (w, r) ∷ []) i → ⊥
apart_3 u v w p q r h k zero m a l e = absurd (omega arith)
apart_3 u v w p q r h k (suc zero) m zero l e = omega arith
apart_3 u v w p q r h k (suc zero) m (suc a) l e = absurd (omega arith)
apart_3 u v w p q r h k (suc (suc zero)) m zero l e = omega arith
apart_3 u v w p q r h k (suc (suc zero)) m (suc zero) l e = omega arith
apart_3 u v w p q r h k (suc (suc zero)) m (suc (suc a)) l e = absurd (omega arith)
apart_3 u v w p q r h k (suc (suc (suc i))) m a l e = absurd (omega arith)

apart_2 : (u v : ℕ) (p q : ℕ) → u < v → (i : ℕ) → i < 2 → (a : ℕ) → a < i → to ((u, p) ∷ (v, q) ∷ []) a ≡ to ((u, p) ∷ (v, q) ∷ []) i → ⊥
apart_2 u v p q h zero m a l e = absurd (omega arith)
apart_2 u v p q h (suc zero) m zero l e = omega arith
apart_2 u v p q h (suc zero) m (suc a) l e = absurd (omega arith)
apart_2 u v p q h (suc (suc i)) m a l e = absurd (omega arith)

module _ (n : ℕ) where
  leads : (xs : List (ℕ × ℕ)) → AllByRecursion (λ x. x.0 < n) xs → (i : ℕ) → i < length xs → to xs i < n
  leads xs h i l = All-get_or (λ (x : ℕ × ℕ). x.0 < n) xs i (0, 0) l h

  weighs : (xs : List (ℕ × ℕ)) → AllByRecursion (λ x. 1 ≤ x.1) xs → (i : ℕ) → i < length xs → 1 ≤ by xs i
  weighs xs h i l = All-get_or (λ (x : ℕ × ℕ). 1 ≤ x.1) xs i (0, 0) l h

  one : (u : ℕ) → u < n → Sound n ((u, 4) ∷ [])
  one u l = record {
    few = (omega arith, omega arith);
    inside = leads ((u, 4) ∷ []) (l, tt);
    weighty = weighs ((u, 4) ∷ []) (omega arith, tt);
    apart = λ i m a k e. absurd (omega arith);
    total = refl;
  }

  two : (u v p q : ℕ) → u < v → v < n → 1 ≤ p → 1 ≤ q → p + q ≡ 4 → Sound n ((u, p) ∷ (v, q) ∷ [])
  two u v p q h l x y e = record {
    few = (omega arith, omega arith);
    inside = leads ((u, p) ∷ (v, q) ∷ []) (omega arith, (l, tt));
    weighty = weighs ((u, p) ∷ (v, q) ∷ []) (x, (y, tt));
    apart = apart_2 u v p q h;
    total = omega arith;
  }

  three : (u v w : ℕ) → u < v → v < w → w < n → Sound n ((u, 1) ∷ (v, 2) ∷ (w, 1) ∷ [])
  three u v w h k l = record {
    few = (omega arith, omega arith);
    inside = leads ((u, 1) ∷ (v, 2) ∷ (w, 1) ∷ []) (omega arith, (omega arith, (l, tt)));
    weighty = weighs ((u, 1) ∷ (v, 2) ∷ (w, 1) ∷ []) (omega arith, (omega arith, (omega arith, tt)));
    apart = apart_3 u v w 1 2 1 h k;
    total = refl;
  }

-- the moves of a state of the band
sound_holding : (b s : ℕ) → 1 ≤ b → s < 2 * b + 1 → Sound (2 * b + 1) (holding b s)
sound_holding b s h l =
    let n = 2 * b + 1 in
    let low : List (ℕ × ℕ) = (s, 3) ∷ (s + 1, 1) ∷ [] in
    let high : List (ℕ × ℕ) = (s - 1, 1) ∷ (s, 3) ∷ [] in
    let middle : List (ℕ × ℕ) = (s - 1, 1) ∷ (s, 2) ∷ (s + 1, 1) ∷ [] in
    elim (cases_eq s 0) [
      | inl q ↦ subst (Sound n) (sym (cond-true (eqb s 0) low (cond (eqb s (2 * b)) high middle) (eq-eqb s 0 q))) (two n s (s + 1) 3 1 (omega arith) (omega arith) (omega arith) (omega arith) refl)
      | inr q ↦ subst (Sound n) (sym (cond-false (eqb s 0) low (cond (eqb s (2 * b)) high middle) (ne_eqb s 0 q))) (elim (cases_eq s (2 * b)) [
        | inl e ↦ subst (Sound n) (sym (cond-true (eqb s (2 * b)) high middle (eq-eqb s (2 * b) e))) (two n (s - 1) s 1 3 (omega arith) (omega arith) (omega arith) (omega arith) refl)
        | inr e ↦ subst (Sound n) (sym (cond-false (eqb s (2 * b)) high middle (ne_eqb s (2 * b) e))) (three n (s - 1) s (s + 1) (omega arith) (omega arith) (omega arith))
      ])
    ]

sound_moves : (b s k : ℕ) → 1 ≤ b → s < 2 * b + 1 → k < 2 → Sound (2 * b + 1) (moves_at b s k)
sound_moves b s zero h l m = sound_holding b s h l
sound_moves b s (suc zero) h l m = one (2 * b + 1) b (omega arith)
sound_moves b s (suc (suc k)) h l m = absurd (omega arith)

-- the costs of a state of the band
fair : (b h c s k : ℕ) → b ≤ 127 → h ≤ 7000 → c ≤ 1000000 → s < 2 * b + 1 → (neg_ℤ (pos 1000000) ≤ℤ cost_at b h c s k) × (cost_at b h c s k ≤ℤ pos 1000000)
fair b h c s zero x y z l =
    let d : distance b s ≤ 127 = omega arith in
    let m : h * distance b s ≤ 7000 * 127 = mul-le h (distance b s) 7000 127 y d in
    (omega (arith, ints), omega (arith, ints))
fair b h c s (suc zero) x y z l = (omega (arith, ints), omega (arith, ints))
fair b h c s (suc (suc k)) x y z l = (omega (arith, ints), omega (arith, ints))

module _ (b h c : ℕ) (within : band_within b h c ≡ true) where
  limits : (1 ≤ b) × (b ≤ 127) × (h ≤ 7000) × (c ≤ 1000000)
  limits =
      let p = and_parts (leb 1 b) (leb b 127 && (leb h 7000 && leb c 1000000)) within in
      let q = and_parts (leb b 127) (leb h 7000 && leb c 1000000) p.1 in
      let r = and_parts (leb h 7000) (leb c 1000000) q.1 in
      (leb-true 1 b p.0, leb-true b 127 q.0, leb-true h 7000 r.0, leb-true c 1000000 r.1)

  size : band_states b h c ≡ 2 * b + 1
  size = cond-true (band_within b h c) (2 * b + 1) 0 within

  has : {X : Type 0} (s : ℕ) (x y : X) → s < band_states b h c → cond (ltb s (band_states b h c)) x y ≡ x
  has s x y l = cond-true (ltb s (band_states b h c)) x y (lt-ltb s (band_states b h c) l)

  sound : (s k : ℕ) → s < band_states b h c → k < band_choices b h c s → Sound (band_states b h c) (band_moves b h c s k)
  sound s k l m =
      let two-of : k < 2 = subst (λ (j : ℕ). k < j) (has {X = ℕ} s 2 0 l) m in
      let here : s < 2 * b + 1 = subst (λ (j : ℕ). s < j) size l in
      subst (λ (j : ℕ). Sound j (band_moves b h c s k)) (sym size)
      (subst (Sound (2 * b + 1)) (sym (has s (moves_at b s k) [] l)) (sound_moves b s k limits.0 here two-of))

  pub band_lawful : Lawful (band_table b h c)
  band_lawful =
      let z = limits in
      record {
        states = (omega (arith, size), omega (arith, size));
        denominator = (omega arith, omega arith);
        choices = λ s l. (let two-of = has {X = ℕ} s 2 0 l in (omega arith, omega arith));
        rewards = λ s k l m. subst (λ (x : ℤ). (neg_ℤ (pos 1000000) ≤ℤ x) × (x ≤ℤ pos 1000000)) (sym (has s (cost_at b h c s k) (pos 0) l))
            (fair b h c s k z.1 z.2 z.3 (subst (λ (j : ℕ). s < j) size l));
        branches = λ s k l m. (sound s k l m).few;
        successors = λ s k i l m o. (sound s k l m).inside i o;
        weights = λ s k i l m o. (sound s k l m).weighty i o;
        distinct = λ s k i l m o. (sound s k l m).apart i o;
        complete = λ s k l m. (sound s k l m).total;
      }
