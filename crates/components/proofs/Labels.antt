-- The number of a node, and the component that it is, from its lowest state.
use Rattle.std.proofs.Common.{◌≡◌, ℕ, zero, suc, ◌<◌, ◌≤◌, Bool, true, false, cond, ◌&&◌, Some, None, Option, refl, ap, ◌∙◌, ⊎_elim, arith}
use Rattle.std.proofs.lemmas.Bool.{cases_Bool, cases_lt, both_ways, eq-eqb, ne_eqb, and_left}
use Rattle.table.specs.Table.{Table}
use Rattle.table.specs.Limits.{Lawful}
use Rattle.components.specs.Below.{count, first}
use Rattle.components.specs.Nodes.{in_component, lowest, is_lowest, heads, node_of, component_of, states_of_node, lowest_of, component_at}
use Rattle.components.proofs.Below.{first_le, first_at}
use Rattle.components.proofs.Numbering.{lowest_le, lowest_again, num_same, node_numbers}
use Rattle.components.proofs.Nodes.{own_node}

-- the first of tests that agree
pub first_same : (n : ℕ) (p q : ℕ → Bool) → ((i : ℕ) → i < n → p i ≡ q i) → first n p ≡ first n q
unfolding first
first_same zero p q h = refl
first_same (suc n) p q h =
    ap (λ (b : Bool). cond b 0 (suc (first n (λ i. p (suc i))))) (h 0 (omega arith))
    ∙ ap (λ (x : ℕ). cond (q 0) 0 (suc x)) (first_same n (λ i. p (suc i)) (λ i. q (suc i)) (λ i l. h (suc i) (omega arith)))

-- a number that passes, with none before it
pub first_is : (n : ℕ) (p : ℕ → Bool) (i : ℕ) → i < n → p i ≡ true → ((j : ℕ) → j < i → p j ≡ false) → first n p ≡ i
first_is n p i h e f =
    let l = first_le n p i e in
    let a = first_at n p i h e in
    not_before (first n p) l a
  where
    not_before : (x : ℕ) → x ≤ i → p x ≡ true → x ≡ i
    not_before x l a = ⊎_elim (λ (k : x < i). absurd (both_ways (p x) (f x k) a)) (λ (k : i ≤ x). omega arith) (cases_lt x i)

module _ (T : Table) (law : Lawful T) where
  -- a state whose lowest state is itself, or another
  pub is_low : (s : ℕ) → lowest T s ≡ s → is_lowest T s ≡ true
  unfolding is_lowest
  is_low s e = eq-eqb (lowest T s) s e

  pub not_low : (s : ℕ) → (lowest T s ≡ s → ⊥) → is_lowest T s ≡ false
  unfolding is_lowest
  not_low s e = ne_eqb (lowest T s) s e

  pub heads_low : (s : ℕ) → lowest T s ≡ s → heads T s ≡ in_component T s
  unfolding heads
  heads_low s e = ap (λ (x : Bool). x && in_component T s) (is_low s e)

  pub heads_not : (s : ℕ) → (lowest T s ≡ s → ⊥) → heads T s ≡ false
  unfolding heads
  heads_not s e = and_left (is_lowest T s) (in_component T s) (not_low s e)

  pub node_low : (s : ℕ) → lowest T s ≡ s → node_of T s ≡ count s (is_lowest T)
  unfolding node_of
  node_low s e = ap (λ (x : ℕ). count x (is_lowest T)) e

  pub node_known : (s : ℕ) → s < T.states → node_of T (lowest T s) ≡ node_of T s
  unfolding node_of
  node_known s h = ap (λ (x : ℕ). count x (is_lowest T)) (lowest_again T law s h)

  low_of : (s : ℕ) → s < T.states → lowest T s ≡ s → lowest_of T (node_of T s) ≡ s
  unfolding lowest_of
  low_of s h e =
      first_is T.states (states_of_node T (node_of T s)) s h (own_node T law s)
      (λ t l. ⊎_elim
      (λ (f : states_of_node T (node_of T s) t ≡ true).
      let q = num_same T law (is_lowest T) (states_of_node T) (node_numbers T law) (node_of T s) t s (omega arith) h f (own_node T law s) in
      let k = lowest_le T law t (omega arith) in
      absurd (omega arith))
      (λ (f : states_of_node T (node_of T s) t ≡ false). f)
      (cases_Bool (states_of_node T (node_of T s) t)))

  -- the component of a node, at its lowest state
  pub component_low : (s : ℕ) → s < T.states → lowest T s ≡ s
      → component_at T (node_of T s) ≡ cond (in_component T s) (Some (count s (heads T))) None
  unfolding component_at component_of
  component_low s h e =
      ap (λ (x : ℕ). cond {A = Option ℕ} (in_component T x) (Some (count (lowest T x) (heads T))) None) (low_of s h e)
      ∙ ap (λ (x : ℕ). cond {A = Option ℕ} (in_component T s) (Some (count x (heads T))) None) e
