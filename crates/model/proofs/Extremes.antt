-- The least and the largest of the rewards that were copied are those of the table.
use Rattle.std.proofs.Common.{◌≡◌, ℕ, ◌+◌, ◌<◌, ◌≤◌, List, [], ◌∷◌, length, get_or, unwrap_or, Some, ℤ, pos, ◌≤ℤ◌, ◌<ℤ◌, Ordering, Less, Equal, Greater, ◌⊎◌, sym, refl, ap, ◌∙◌, subst, ⊎_elim, arith}
use Rattle.std.specs.Int.{int_min, int_max}
use Rattle.std.specs.List.{All, Contains, reduce}
use Rattle.std.specs.Ordering.{int_cmp, min_by_ordering, max_by_ordering}
use Rattle.std.proofs.lemmas.Cmp.{int_ranked}
use Rattle.std.proofs.lemmas.Int.{ints, clamps, fold-int_min_bounds, fold-int_min_reached, fold-int_max_bounds, fold-int_max_reached}
use Rattle.std.proofs.lemmas.List.{get_or-map, length-map}
use Rattle.std.proofs.lemmas.List.Elements.{All-cons, All-map, Contains-append_right}
use Rattle.table.specs.Table.{Table}
use Rattle.table.specs.Limits.{Lawful}
use Rattle.sources.specs.Rows.{no_state, no_choice}
use Rattle.sources.specs.declared.list.StateRow.{StateRow}
use Rattle.sources.specs.declared.list.ChoiceRow.{ChoiceRow}
use Rattle.model.specs.Rewards.{rewards}
use Rattle.model.specs.Copy.{Earned, StatesCopied}
use Rattle.model.specs.Loads.{LeastReward, LargestReward}

-- the lesser and the greater of two by their order
pub min_same : (x y : ℤ) → min_by_ordering (int_cmp x y) x y ≡ int_min x y
min_same x y = at (int_cmp x y) refl
  where
    at : (o : Ordering) → o ≡ int_cmp x y → min_by_ordering o x y ≡ int_min x y
    at Less e = let h : x <ℤ y = int_ranked x y Less e in omega (arith, ints, clamps)
    at Equal e = let h : x ≡ y = int_ranked x y Equal e in rw h (omega (arith, ints, clamps))
    at Greater e = let h : y <ℤ x = int_ranked x y Greater e in omega (arith, ints, clamps)

pub max_same : (x y : ℤ) → max_by_ordering (int_cmp x y) x y ≡ int_max x y
max_same x y = at (int_cmp x y) refl
  where
    at : (o : Ordering) → o ≡ int_cmp x y → max_by_ordering o x y ≡ int_max x y
    at Less e = let h : x <ℤ y = int_ranked x y Less e in omega (arith, ints, clamps)
    at Equal e = let h : x ≡ y = int_ranked x y Equal e in rw h (omega (arith, ints, clamps))
    at Greater e = let h : y <ℤ x = int_ranked x y Greater e in omega (arith, ints, clamps)

reached : (x r : ℤ) (xs : List ℤ) → (r ≡ x) ⊎ Contains xs r → Contains (x ∷ xs) r
reached x r xs w = ⊎_elim (λ (e : r ≡ x). (0, omega arith, sym e)) (λ (h : Contains xs r). Contains-append_right (x ∷ []) xs r h) w

least_of : (xs : List ℤ) (r : ℤ) → 1 ≤ length xs → r ≡ unwrap_or (reduce int_min xs) (pos 0) → All (λ x. r ≤ℤ x) xs × Contains xs r
least_of [] r h e = absurd (omega arith)
least_of (x ∷ xs) r h e =
    let b = fold-int_min_bounds x xs r e in
    (All-cons (λ y. r ≤ℤ y) x xs b.0 b.1, reached x r xs (fold-int_min_reached x xs r e))

largest_of : (xs : List ℤ) (r : ℤ) → 1 ≤ length xs → r ≡ unwrap_or (reduce int_max xs) (pos 0) → All (λ x. x ≤ℤ r) xs × Contains xs r
largest_of [] r h e = absurd (omega arith)
largest_of (x ∷ xs) r h e =
    let b = fold-int_max_bounds x xs r e in
    (All-cons (λ y. y ≤ℤ r) x xs b.0 b.1, reached x r xs (fold-int_max_reached x xs r e))

-- the least or the largest of some rewards is one
pub some_of : (f : ℤ → ℤ → ℤ) (xs : List ℤ) (r : ℤ) → 1 ≤ length xs → r ≡ unwrap_or (reduce f xs) (pos 0) → reduce f xs ≡ Some r
some_of f [] r h e = absurd (omega arith)
some_of f (x ∷ xs) r h e = ap Some (sym e)

module _ (T : Table) (law : Lawful T) (states : List StateRow) (choices : List ChoiceRow) (branches : List (ℕ × ℕ))
    (p : StatesCopied T T.states states choices branches) where
  pub some_reward : 1 ≤ length (rewards choices)
  some_reward =
      let h : 0 < T.states = law.states.0 in
      let few = (law.choices 0 h).0 in
      let w = (p.at 0 h).held.within in
      let l = length-map {B = ℤ} choices (λ (row : ChoiceRow). row.reward) in
      omega arith

  -- the reward of a choice of the table is among them
  among : (P : ℤ → Type 0) → All P (rewards choices) → (s c : ℕ) → s < T.states → c < T.choices s → P (T.reward s c)
  among P all s c h k =
      let held = (p.at s h).held in
      let i : ℕ = (get_or states s no_state).first + c in
      let w = held.within in
      let l = length-map {B = ℤ} choices (λ (row : ChoiceRow). row.reward) in
      subst P
      (get_or-map {Y = ℤ} (λ (row : ChoiceRow). row.reward) choices i no_choice (pos 0) (omega arith) ∙ (held.at c k).reward)
      (all i (pos 0) (omega arith))

  earned : (r : ℤ) → Contains (rewards choices) r → Earned T T.states r
  earned r w = subst (Earned T T.states) w.2 (All-map (Earned T T.states) (λ (row : ChoiceRow). row.reward) choices p.earned w.0 r w.1)

  pub least_copied : (r : ℤ) → r ≡ unwrap_or (reduce int_min (rewards choices)) (pos 0) → LeastReward T r
  least_copied r e =
      let w = least_of (rewards choices) r some_reward e in
      record { earned = earned r w.1; bound = among (λ x. r ≤ℤ x) w.0 }

  pub largest_copied : (r : ℤ) → r ≡ unwrap_or (reduce int_max (rewards choices)) (pos 0) → LargestReward T r
  largest_copied r e =
      let w = largest_of (rewards choices) r some_reward e in
      record { earned = earned r w.1; bound = among (λ x. x ≤ℤ r) w.0 }
