-- The states of a component are the members of its node; the largest and the least over them, place by place.
use Rattle.std.proofs.Common.{◌≡◌, ℕ, ◌+◌, ◌^◌, ◌<◌, true, false, ◌⊎◌, List, length, get_or, ℤ, pos, neg_ℤ, ◌≤ℤ◌, Some, Option, sym, ap, ◌∙◌, subst, inl, inr, ⊎_elim, arith, MatchOption}
use Rattle.std.proofs.lemmas.Bool.{cases_eq, both_ways, eqb-true, eq-eqb}
use Rattle.horizon.specs.Ring.{lin}
use Rattle.table.specs.Table.{Table}
use Rattle.table.specs.Limits.{Lawful}
use Rattle.components.specs.Nodes.{nodes, node_of, components, component_at, states_of, states_of_node}
use Rattle.components.specs.Law.{SameStates, Lone}
use Rattle.components.proofs.Nodes.{node_law}
use Rattle.rules.specs.Choosing.{largest, smallest}
use Rattle.rules.proofs.Loops.{largest_is, smallest_is}
use Rattle.rules.proofs.Nodes.{some_state}
use Rattle.book.specs.Facts.{node_states}
use Rattle.book.proofs.Members.{member_of, place_of}

-- the home of a component is the node that is it
module _ (T : Table) (L : Lawful T) (k home : ℕ) (known : home < nodes T) (is : component_at T home ≡ Some k) where
  same : SameStates T (states_of_node T home) (states_of T k)
  same =
      (subst
      (λ (o : Option ℕ). MatchOption o
      ((s : ℕ) → s < T.states → node_of T s ≡ home → Lone T s)
      (λ i. (i < components T) × SameStates T (states_of_node T home) (states_of T i)))
      is ((node_law T L).which home known)).1

  pub to_state : (s : ℕ) → s < T.states → node_of T s ≡ home → states_of T k s ≡ true
  to_state s h e = same.0 s h (eq-eqb (node_of T s) home e)

  pub to_node : (s : ℕ) → s < T.states → states_of T k s ≡ true → node_of T s ≡ home
  to_node s h e = eqb-true (node_of T s) home (same.1 s h e)

  pub not_node : (s : ℕ) → s < T.states → states_of T k s ≡ false → node_of T s ≡ home → ⊥
  not_node s h e q = both_ways (states_of T k s) e (to_state s h q)

-- m bounds g below i, and is one of these or past a limit beyond all numbers in use
abbrev pub Extreme : (ℤ → ℤ → Type 0) → ℤ → (ℕ → ℤ) → ℕ → ℤ → Type 0
Extreme R limit g i m = ((p : ℕ) → p < i → R (g p) m) × (R m limit ⊎ ((p : ℕ) × (p < i) × (m ≡ g p)))

abbrev pub Highest : (ℕ → ℤ) → ℕ → ℤ → Type 0
Highest = Extreme (λ x y. x ≤ℤ y) (neg_ℤ (pos (2 ^ 60)))

abbrev pub Lowest : (ℕ → ℤ) → ℕ → ℤ → Type 0
Lowest = Extreme (λ x y. y ≤ℤ x) (pos (2 ^ 60))

module _ (g : ℕ → ℤ) (i : ℕ) (m n z : ℤ) (here : z ≡ g i) where
  extreme_more : (R : ℤ → ℤ → Type 0) (limit : ℤ) → ((x y : ℤ) → R x m → R m y → R x y)
      → Extreme R limit g i m → (R m n) × (R z n) × ((n ≡ m) ⊎ (n ≡ z)) → Extreme R limit g (i + 1) n
  extreme_more R limit trans w u = (
    λ p h. ⊎_elim
        (λ (e : p ≡ i). subst (λ (x : ℤ). R x n) (here ∙ sym (ap g e)) u.1)
        (λ (e : p ≡ i → ⊥). trans (g p) n (w.0 p (omega arith)) u.0)
        (cases_eq p i),
    ⊎_elim
        (λ (e : n ≡ m). ⊎_elim
        (λ (s : R m limit). inl (subst (λ (x : ℤ). R x limit) (sym e) s))
        (λ (r : (p : ℕ) × (p < i) × (m ≡ g p)). inr (r.0, (let y = r.1 in omega arith), e ∙ r.2))
        w.1)
        (λ (e : n ≡ z). inr (i, omega arith, e ∙ here))
        u.2,
  )

  pub highest_more : Highest g i m → (m ≤ℤ n) × (z ≤ℤ n) × ((n ≡ m) ⊎ (n ≡ z)) → Highest g (i + 1) n
  highest_more = extreme_more (λ x y. x ≤ℤ y) (neg_ℤ (pos (2 ^ 60))) (λ x y a b. omega (arith, lin))

  pub lowest_more : Lowest g i m → (n ≤ℤ m) × (n ≤ℤ z) × ((n ≡ m) ⊎ (n ≡ z)) → Lowest g (i + 1) n
  lowest_more = extreme_more (λ x y. y ≤ℤ x) (pos (2 ^ 60)) (λ x y a b. omega (arith, lin))

-- over all members of the home of a component
module _ (T : Table) (L : Lawful T) (k home : ℕ) (known : home < nodes T) (is : component_at T home ≡ Some k) (in_range : k < components T)
    (ms : List ℕ) (all : ms ≡ node_states T home) (g : ℕ → ℤ) (m : ℤ)
    (small : (s : ℕ) → s < T.states → states_of T k s ≡ true → (neg_ℤ (pos (2 ^ 50)) ≤ℤ g s) × (g s ≤ℤ pos (2 ^ 50))) where
  -- the extreme of all members bounds the component's states, and is the number of one of them
  extreme_all : (R : ℤ → ℤ → Type 0) (limit : ℤ)
      → ((s : ℕ) → s < T.states → states_of T k s ≡ true → R (g s) m → R m limit → ⊥)
      → (i : ℕ) → i ≡ length ms → Extreme R limit (λ p. g (get_or ms p 0)) i m
      → ((s : ℕ) → s < T.states → states_of T k s ≡ true → R (g s) m)
      × ((s : ℕ) × (s < T.states) × (states_of T k s ≡ true) × (m ≡ g s))
  extreme_all R limit far i end w =
      let o = some_state T L k in_range in
      let bound : (s : ℕ) → s < T.states → states_of T k s ≡ true → R (g s) m =
      λ s h e. (let r = place_of T home ms all s h (to_node T L k home known is s h e) in
      subst (λ (u : ℕ). R (g u) m) r.2 (w.0 r.0 (let y = r.1 in omega arith))) in (
        bound,
        ⊎_elim
            (λ (s : R m limit). absurd (far o.0 o.1 o.2 (bound o.0 o.1 o.2) s))
            (λ (r : (p : ℕ) × (p < i) × (m ≡ g (get_or ms p 0))).
            let below : r.0 < length ms = (let y = r.1 in omega arith) in
            let c = member_of T home ms all r.0 below in
            (get_or ms r.0 0, c.0, to_state T L k home known is (get_or ms r.0 0) c.0 c.1, r.2))
            w.1,
      )

  pub highest_all : (i : ℕ) → i ≡ length ms → Highest (λ p. g (get_or ms p 0)) i m → m ≡ largest T.states (states_of T k) g
  highest_all i end w =
      let a = extreme_all (λ x y. x ≤ℤ y) (neg_ℤ (pos (2 ^ 60))) (λ s h e x y. let z = (small s h e).0 in omega (arith, lin)) i end w in
      largest_is T.states (states_of T k) g m a.1.0 a.1.1 a.1.2 a.1.3 a.0

  pub lowest_all : (i : ℕ) → i ≡ length ms → Lowest (λ p. g (get_or ms p 0)) i m → m ≡ smallest T.states (states_of T k) g
  lowest_all i end w =
      let a = extreme_all (λ x y. y ≤ℤ x) (pos (2 ^ 60)) (λ s h e x y. let z = (small s h e).1 in omega (arith, lin)) i end w in
      smallest_is T.states (states_of T k) g m a.1.0 a.1.1 a.1.2 a.1.3 a.0
