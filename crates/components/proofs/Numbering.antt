-- Nodes by their lowest states, and sets of states that are numbered by rising lowest state.
use Rattle.std.proofs.Common.{◌≡◌, ℕ, ◌<◌, ◌≤◌, Bool, true, false, eqb, ◌↔◌, sym, ◌∙◌, ⊎_elim, arith}
use Rattle.std.proofs.lemmas.Bool.{cases_Bool, cases_lt, and_parts, and_from, both_ways, eq-eqb, eqb-true}
use Rattle.table.specs.Table.{Table}
use Rattle.table.specs.Limits.{Lawful}
use Rattle.components.specs.Below.{count}
use Rattle.components.specs.EndComponent.{States, stays}
use Rattle.components.specs.Inside.{reach, inside}
use Rattle.components.specs.Nodes.{in_component, lowest, is_lowest, heads, node_of, component_of, states_of_node, states_of}
use Rattle.components.specs.Law.{Lowest}
use Rattle.components.proofs.Below.{any_some, any_from, first_le, first_at, count_past, count_order, count_same, count_onto}
use Rattle.components.proofs.Reach.{trans, reach_sound, reach_in, reach_all}
use Rattle.components.proofs.Reversible.{Acts, acts_before, back, Greatest, inside_exists, inside_greatest}

-- a state with an inside choice
pub acts_of : (T : Table) (s : ℕ) → in_component T s ≡ true → Acts T (inside T) s
unfolding in_component
acts_of T s e =
    let x = any_some (T.choices s) (inside T s) e in
    record { choice = x.0; of = inside_exists T s x.0 x.2; chosen = x.2 }

pub of_acts : (T : Table) (s : ℕ) → Acts T (inside T) s → in_component T s ≡ true
unfolding in_component
of_acts T s a = any_from (T.choices s) (inside T s) a.choice a.of.choice a.chosen

-- R numbers the nodes whose lowest states pass p
pub record Numbers (T : Table) (p : ℕ → Bool) (R : ℕ → States) : Type 0 where
  pub head : (h : ℕ) → p h ≡ true → lowest T h ≡ h
  pub of : (i s : ℕ) → s < T.states → (R i s ≡ true) ↔ ((p (lowest T s) ≡ true) × (count (lowest T s) p ≡ i))

module _ (T : Table) (law : Lawful T) where
  abbrev pub G : Greatest T (inside T)
  G = inside_greatest T law

  -- two states of one node reach each other by inside choices
  pub turned : (s t : ℕ) → reach T (inside T) s t ≡ true → reach T (inside T) t s ≡ true
  turned s t e = reach_all law (reach_in T (inside T) s t e).1 (back G.reversible (reach_sound T (inside T) s t e))

  pub onward : (s t u : ℕ) → reach T (inside T) s t ≡ true → reach T (inside T) t u ≡ true → reach T (inside T) s u ≡ true
  onward s t u e f =
      reach_all law (reach_in T (inside T) s t e).0 (trans (reach_sound T (inside T) s t e) (reach_sound T (inside T) t u f))

  -- The lowest state of a node

  pub lowest_le : (s : ℕ) → s < T.states → lowest T s ≤ s
  unfolding lowest
  lowest_le s h = first_le T.states (reach T (inside T) s) s (reach_all law h stays)

  pub lowest_reach : (s : ℕ) → s < T.states → reach T (inside T) s (lowest T s) ≡ true
  unfolding lowest
  lowest_reach s h = first_at T.states (reach T (inside T) s) s h (reach_all law h stays)

  lowest_down : (s t : ℕ) → reach T (inside T) s t ≡ true → lowest T s ≤ lowest T t
  unfolding lowest
  lowest_down s t e =
      first_le T.states (reach T (inside T) s) (lowest T t)
      (onward s t (lowest T t) e (lowest_reach t (reach_in T (inside T) s t e).1))

  pub lowest_same : (s t : ℕ) → reach T (inside T) s t ≡ true → lowest T s ≡ lowest T t
  lowest_same s t e =
      let u = lowest_down s t e in
      let v = lowest_down t s (turned s t e) in
      omega arith

  pub same_reach : (s t : ℕ) → s < T.states → t < T.states → lowest T s ≡ lowest T t → reach T (inside T) s t ≡ true
  same_reach s t h k q =
      let e : reach T (inside T) s (lowest T t) ≡ true = rw q at (lowest_reach s h) in
      onward s (lowest T t) t e (turned t (lowest T t) (lowest_reach t k))

  pub lowest_again : (s : ℕ) → s < T.states → lowest T (lowest T s) ≡ lowest T s
  lowest_again s h = sym (lowest_same s (lowest T s) (lowest_reach s h))

  -- a node lies in a component as a whole
  pub in_same : (s t : ℕ) → s < T.states → t < T.states → lowest T s ≡ lowest T t → in_component T t ≡ true → in_component T s ≡ true
  in_same s t h k q e =
      of_acts T s (acts_before (acts_of T t e) (reach_sound T (inside T) s t (same_reach s t h k q)))

  -- What holds of both numberings

  module _ (p : ℕ → Bool) (R : ℕ → States) (N : Numbers T p R) where
    -- two states of one number are in one node, and a node has one number
    pub num_same : (i s t : ℕ) → s < T.states → t < T.states → R i s ≡ true → R i t ≡ true → lowest T s ≡ lowest T t
    num_same i s t h k e f =
        let x = (N.of i s h).0 e in
        let y = (N.of i t k).0 f in
        count_same (lowest T s) (lowest T t) p x.0 y.0 (x.1 ∙ sym y.1)

    pub num_keep : (i s t : ℕ) → s < T.states → t < T.states → R i s ≡ true → lowest T s ≡ lowest T t → R i t ≡ true
    num_keep i s t h k e q =
        let x = (N.of i s h).0 e in
        (N.of i t k).1 (rw (← q) x.0, rw (← q) x.1)

    pub num_bound : (i s : ℕ) → s < T.states → R i s ≡ true → i < count T.states p
    num_bound i s h e =
        let x = (N.of i s h).0 e in
        let l = lowest_le s h in
        let u = count_past (lowest T s) T.states p x.0 (omega arith) in
        let v = x.1 in
        omega arith

    -- the lowest state of a number
    pub num_lowest : (i : ℕ) → i < count T.states p → (s : ℕ) × Lowest T (R i) s
    num_lowest i l =
        let x = count_onto T.states i p l in
        let h = x.0 in
        let q = N.head h x.2 in
        let m = (N.of i h x.1).1 (rw q x.2, rw q x.3) in (
          h,
          record {
            state = x.1;
            member = m;
            first = λ t k. ⊎_elim
                (λ (e : R i t ≡ true).
                let u = num_same i t h (omega arith) x.1 e m in
                let v = lowest_le t (omega arith) in
                absurd (omega arith))
                (λ (e : R i t ≡ false). e)
                (cases_Bool (R i t));
          },
        )

    pub num_head : (i s : ℕ) → Lowest T (R i) s → lowest T s ≡ s
    num_head i s w =
        let l = lowest_le s w.state in
        let h : lowest T s < T.states = omega (arith, w.state) in
        let m = num_keep i s (lowest T s) w.state h w.member (sym (lowest_again s w.state)) in
        ⊎_elim
        (λ (k : lowest T s < s). absurd (both_ways (R i (lowest T s)) (w.first (lowest T s) k) m))
        (λ (k : s ≤ lowest T s). omega arith)
        (cases_lt (lowest T s) s)

    pub num_rising : (i j s t : ℕ) → i < j → Lowest T (R i) s → Lowest T (R j) t → s < t
    num_rising i j s t l v w =
        let x = (N.of i s v.state).0 v.member in
        let y = (N.of j t w.state).0 w.member in
        let a : count s p ≡ i = rw (num_head i s v) at x.1 in
        let b : count t p ≡ j = rw (num_head j t w) at y.1 in
        let c : p t ≡ true = rw (num_head j t w) at y.0 in
        count_order s t p c (omega arith)

  -- The two numberings

  low_is : (s : ℕ) → is_lowest T s ≡ true → lowest T s ≡ s
  unfolding is_lowest
  low_is s e = eqb-true (lowest T s) s e

  pub is_low : (s : ℕ) → s < T.states → is_lowest T (lowest T s) ≡ true
  unfolding is_lowest
  is_low s h = eq-eqb (lowest T (lowest T s)) (lowest T s) (lowest_again s h)

  pub node_numbers : Numbers T (is_lowest T) (states_of_node T)
  unfolding node_of
  node_numbers = record {
    head = low_is;
    of = λ i s h. (
      (λ e. (is_low s h, eqb-true (node_of T s) i e)),
      (λ x. eq-eqb (node_of T s) i x.1),
    );
  }

  heads_parts : (s : ℕ) → heads T s ≡ true → (is_lowest T s ≡ true) × (in_component T s ≡ true)
  unfolding heads
  heads_parts s e = and_parts (is_lowest T s) (in_component T s) e

  heads_from : (s : ℕ) → s < T.states → in_component T s ≡ true → heads T (lowest T s) ≡ true
  unfolding heads
  heads_from s h e =
      let l = lowest_le s h in
      and_from (is_lowest T (lowest T s)) (in_component T (lowest T s)) (is_low s h)
      (in_same (lowest T s) s (omega arith) h (lowest_again s h) e)

  pub component_numbers : Numbers T (heads T) (states_of T)
  unfolding component_of
  component_numbers = record {
    head = λ h e. low_is h (heads_parts h e).0;
    of = λ i s h. (
      (λ e.
          let w = and_parts (in_component T s) (eqb (component_of T s) i) e in
          (heads_from s h w.0, eqb-true (component_of T s) i w.1)),
      (λ x.
          let l = lowest_le s h in
          and_from (in_component T s) (eqb (component_of T s) i)
          (in_same s (lowest T s) h (omega arith) (sym (lowest_again s h)) (heads_parts (lowest T s) x.0).1)
          (eq-eqb (component_of T s) i x.1)),
    );
  }
