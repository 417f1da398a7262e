-- The walk over the states of a node, and lists that are written at them.
use Rattle.std.proofs.Common.{◌≡◌, ℕ, zero, suc, ◌+◌, ◌<◌, ◌≤◌, Bool, true, false, eqb, List, [], ◌∷◌, length, get_or, set, drop, filter, sym, refl, ap, ◌∙◌, subst, ⊎_elim, arith}
use Rattle.std.specs.List.{range_with_len}
use Rattle.std.proofs.lemmas.List.FromFn.{get_or-range_with_len, length-range_with_len}
use Rattle.std.proofs.lemmas.List.{get_or-set_same, get_or-set_other}
use Rattle.std.proofs.lemmas.Bool.{cases_eq, cond_both, eqb-true, eq-eqb}
use Rattle.table.specs.Table.{Table}
use Rattle.components.specs.Nodes.{node_of}
use Rattle.book.specs.Facts.{node_states}

module _ {X : Type 0} (p : X → Bool) (d : X) where
  -- what passes is kept
  pub kept_has : (xs : List X) (i : ℕ) → i < length xs → p (get_or xs i d) ≡ true
      → (j : ℕ) × (j < length (filter p xs)) × (get_or (filter p xs) j d ≡ get_or xs i d)
  kept_has [] i h e = absurd (omega arith)
  kept_has (x ∷ xs) zero h e =
      cond_both (p x) (x ∷ filter p xs) (filter p xs) (λ l. (j : ℕ) × (j < length l) × (get_or l j d ≡ x))
      (λ _. (0, omega arith, refl))
      (λ f. let z : true ≡ false = sym e ∙ f in let y : ◌≡◌ {A = ℕ} 0 1 = cc in absurd (omega arith))
  kept_has (x ∷ xs) (suc i) h e =
      let r = kept_has xs i (omega arith) e in
      cond_both (p x) (x ∷ filter p xs) (filter p xs) (λ l. (j : ℕ) × (j < length l) × (get_or l j d ≡ get_or xs i d))
      (λ _. (suc r.0, (let k = r.1 in omega arith), r.2))
      (λ _. r)

  -- what is kept passes
  pub kept_from : (xs : List X) (j : ℕ) → j < length (filter p xs)
      → (i : ℕ) × (i < length xs) × (get_or xs i d ≡ get_or (filter p xs) j d) × (p (get_or xs i d) ≡ true)
  kept_from [] j h = absurd (omega arith)
  kept_from (x ∷ xs) zero h =
      cond_both (p x) (x ∷ filter p xs) (filter p xs)
      (λ l. 0 < length l → (i : ℕ) × (i < length (x ∷ xs)) × (get_or (x ∷ xs) i d ≡ get_or l 0 d) × (p (get_or (x ∷ xs) i d) ≡ true))
      (λ e _. (0, omega arith, refl, e))
      (λ _ k. let r = kept_from xs 0 k in (suc r.0, (let q = r.1 in omega arith), r.2, r.3)) h
  kept_from (x ∷ xs) (suc j) h =
      cond_both (p x) (x ∷ filter p xs) (filter p xs)
      (λ l. suc j < length l → (i : ℕ) × (i < length (x ∷ xs)) × (get_or (x ∷ xs) i d ≡ get_or l (suc j) d) × (p (get_or (x ∷ xs) i d) ≡ true))
      (λ _ k. let r = kept_from xs j (omega arith) in (suc r.0, (let q = r.1 in omega arith), r.2, r.3))
      (λ _ k. let r = kept_from xs (suc j) k in (suc r.0, (let q = r.1 in omega arith), r.2, r.3)) h

-- what the filter of a run of numbers begins with
module _ (p : ℕ → Bool) where
  pub record NextPasses (s m x : ℕ) (xs : List ℕ) : Type 0 where
    pub least : s ≤ x
    pub within : x < s + m
    pub passes : p x ≡ true
    pub none : (u : ℕ) → s ≤ u → u < x → p u ≡ false
    pub left : ℕ
    pub ends : (x + 1) + left ≡ s + m
    pub rest : xs ≡ filter p (range_with_len (x + 1) left)

  pub next_passes : (s m x : ℕ) (xs : List ℕ) → x ∷ xs ≡ filter p (range_with_len s m) → NextPasses s m x xs
  next_passes s zero x xs e = let z : suc (length xs) ≡ 0 = ap (λ (l : List ℕ). length l) e in absurd (omega arith)
  next_passes s (suc m) x xs e =
      cond_both (p s) (s ∷ filter p (range_with_len (s + 1) m)) (filter p (range_with_len (s + 1) m)) (λ l. x ∷ xs ≡ l → NextPasses s (suc m) x xs)
      (λ t h.
      let q : x ≡ s = ap (λ (l : List ℕ). get_or l 0 0) h in
      let r : xs ≡ filter p (range_with_len (s + 1) m) = ap (λ (l : List ℕ). drop 1 l) h in
      record {
        least = omega arith;
        within = omega arith;
        passes = ap p q ∙ t;
        none = λ u a b. absurd (omega arith);
        left = m;
        ends = omega arith;
        rest = r ∙ ap (λ (a : ℕ). filter p (range_with_len (a + 1) m)) (sym q);
      })
      (λ f h.
      let r = next_passes (s + 1) m x xs h in
      record {
        least = omega (arith, r.least);
        within = omega (arith, r.within);
        passes = r.passes;
        none = λ u a b. ⊎_elim (λ (z : u ≡ s). ap p z ∙ f) (λ (z : u ≡ s → ⊥). r.none u (omega arith) b) (cases_eq u s);
        left = r.left;
        ends = omega (arith, r.ends);
        rest = r.rest;
      })
      e

  pub none_passes : (s m : ℕ) → [] ≡ filter p (range_with_len s m) → (u : ℕ) → s ≤ u → u < s + m → p u ≡ false
  none_passes s zero e u a b = absurd (omega arith)
  none_passes s (suc m) e u a b =
      cond_both (p s) (s ∷ filter p (range_with_len (s + 1) m)) (filter p (range_with_len (s + 1) m)) (λ l. [] ≡ l → p u ≡ false)
      (λ t h. let z : 0 ≡ suc (length (filter p (range_with_len (s + 1) m))) = ap (λ (l : List ℕ). length l) h in absurd (omega arith))
      (λ f h. ⊎_elim (λ (z : u ≡ s). ap p z ∙ f) (λ (z : u ≡ s → ⊥). none_passes (s + 1) m h u (omega arith) (omega arith)) (cases_eq u s))
      e

counted : (n s : ℕ) → s < n → get_or (range_with_len 0 n) s 0 ≡ s
counted n s h = let z : 0 + s ≡ s = omega arith in get_or-range_with_len 0 n s 0 h ∙ z

module _ (T : Table) (v : ℕ) (ms : List ℕ) (all : ms ≡ node_states T v) where
  -- a member is a state of the node
  pub member_of : (i : ℕ) → i < length ms → (get_or ms i 0 < T.states) × (node_of T (get_or ms i 0) ≡ v)
  member_of i h =
      let n : ℕ = T.states in
      let p : ℕ → Bool = λ s. eqb (node_of T s) v in
      let m : length ms ≡ length (filter p (range_with_len 0 n)) = ap (λ (l : List ℕ). length l) all in
      let r = kept_from p 0 (range_with_len 0 n) i (omega arith) in
      let l : r.0 < n = (let a = r.1 in let b = length-range_with_len 0 n in omega arith) in
      let g : get_or (range_with_len 0 n) r.0 0 ≡ r.0 = counted n r.0 l in
      let e : get_or ms i 0 ≡ r.0 = ap (λ (l : List ℕ). get_or l i 0) all ∙ sym r.2 ∙ g in
      let t : node_of T r.0 ≡ v = eqb-true (node_of T r.0) v (sym (ap p g) ∙ r.3) in
      (subst (λ (s : ℕ). s < n) (sym e) l, ap (node_of T) e ∙ t)

  -- each state of the node is a member
  pub place_of : (s : ℕ) → s < T.states → node_of T s ≡ v → (i : ℕ) × (i < length ms) × (get_or ms i 0 ≡ s)
  place_of s h e =
      let n : ℕ = T.states in
      let p : ℕ → Bool = λ s. eqb (node_of T s) v in
      let g : get_or (range_with_len 0 n) s 0 ≡ s = counted n s h in
      let b = length-range_with_len 0 n in
      let r = kept_has p 0 (range_with_len 0 n) s (omega arith) (ap p g ∙ eq-eqb (node_of T s) v e) in
      let m : length ms ≡ length (filter p (range_with_len 0 n)) = ap (λ (l : List ℕ). length l) all in
      let k = r.1 in
      (r.0, omega arith, ap (λ (l : List ℕ). get_or l r.0 0) all ∙ r.2 ∙ g)

-- the first i members of the node hold g in the list, and no other state is written
abbrev pub Written : {X : Type 0} → Table → ℕ → List ℕ → X → (ℕ → X) → ℕ → List X → List X → Type 0
Written T v ms d g i old xs =
    ((p : ℕ) → p < i → get_or xs (get_or ms p 0) d ≡ g (get_or ms p 0))
    × ((u : ℕ) → (node_of T u ≡ v → ⊥) → get_or xs u d ≡ get_or old u d)

module _ {X : Type 0} (T : Table) (v : ℕ) (ms : List ℕ) (d : X) (g : ℕ → X) (i : ℕ) (old xs : List X) where
  pub written_more : node_of T (get_or ms i 0) ≡ v → get_or ms i 0 < length xs → Written T v ms d g i old xs
      → Written T v ms d g (i + 1) old (set xs (get_or ms i 0) (g (get_or ms i 0)))
  written_more e l w =
      let s = get_or ms i 0 in (
        λ p a. ⊎_elim
            (λ (z : get_or ms p 0 ≡ s). ap (λ (u : ℕ). get_or (set xs s (g s)) u d) z ∙ get_or-set_same xs s (g s) d l ∙ ap g (sym z))
            (λ (z : get_or ms p 0 ≡ s → ⊥).
            let before : p < i = ⊎_elim (λ (y : p ≡ i). absurd (z (ap (λ (j : ℕ). get_or ms j 0) y))) (λ (y : p ≡ i → ⊥). omega arith) (cases_eq p i) in
            get_or-set_other xs s (get_or ms p 0) (g s) d z ∙ w.0 p before)
            (cases_eq (get_or ms p 0) s),
        λ u n. get_or-set_other xs s u (g s) d (λ z. n (ap (node_of T) z ∙ e)) ∙ w.1 u n,
      )

  pub written_all : ms ≡ node_states T v → length ms ≤ i → Written T v ms d g i old xs
      → (s : ℕ) → s < T.states → node_of T s ≡ v → get_or xs s d ≡ g s
  written_all all end w s h e =
      let r = place_of T v ms all s h e in
      let a = r.1 in
      ap (λ (u : ℕ). get_or xs u d) (sym r.2) ∙ w.0 r.0 (omega arith) ∙ ap g r.2
