-- The components are the maximal end components, and the inside choices are theirs.
use Rattle.std.proofs.Common.{◌≡◌, ℕ, ◌<◌, true, eqb, ◌↔◌, sym, refl, ◌∙◌}
use Rattle.std.proofs.lemmas.Bool.{and_parts, and_from, eq-eqb, eqb-true}
use Rattle.table.specs.Table.{Table}
use Rattle.table.specs.Limits.{Lawful}
use Rattle.components.specs.EndComponent.{States, Choices, Choice, Reaches, Maximal}
use Rattle.components.specs.Inside.{inside}
use Rattle.components.specs.Nodes.{in_component, heads, components, component_of, states_of, choices_of}
use Rattle.components.specs.Law.{SameStates, SameChoices, Lowest, ComponentLaw, InsideLaw}
use Rattle.components.proofs.Reach.{reach_sound, reach_all}
use Rattle.components.proofs.Classes.{Class, class_closed, class_maximal, only_classes, choice_state}
use Rattle.components.proofs.Numbering.{acts_of, of_acts, G, lowest_same, same_reach, num_same, num_keep, num_bound, num_lowest, num_rising, component_numbers}

module _ (T : Table) (law : Lawful T) where
  -- the component of a state that is in one
  pub own : (s : ℕ) → in_component T s ≡ true → states_of T (component_of T s) s ≡ true
  own s e = and_from (in_component T s) (eqb (component_of T s) (component_of T s)) e (eq-eqb (component_of T s) (component_of T s) refl)

  pub component_bound : (i s : ℕ) → s < T.states → states_of T i s ≡ true → i < components T
  unfolding components
  component_bound i s h e = num_bound T law (heads T) (states_of T) (component_numbers T law) i s h e

  -- a component is what a state of it reaches by inside choices
  pub component_reached : (i s : ℕ) → s < T.states → states_of T i s ≡ true
      → (t : ℕ) → t < T.states → (states_of T i t ≡ true) ↔ Reaches T (inside T) s t
  component_reached i s h e t k = (
    (λ f.
        reach_sound T (inside T) s t
        (same_reach T law s t h k (num_same T law (heads T) (states_of T) (component_numbers T law) i s t h k e f))),
    (λ r.
        num_keep T law (heads T) (states_of T) (component_numbers T law) i s t h k e (lowest_same T law s t (reach_all law h r))),
  )

  pub component_class : (i s : ℕ) → s < T.states → states_of T i s ≡ true → Class T (inside T) (states_of T i)
  component_class i s h e = record {
    root = s;
    acts = acts_of T s (and_parts (in_component T s) (eqb (component_of T s) i) e).0;
    reached = component_reached i s h e;
  }

  lowest_state : (i : ℕ) → i < components T → (s : ℕ) × Lowest T (states_of T i) s
  unfolding components
  lowest_state i l = num_lowest T law (heads T) (states_of T) (component_numbers T law) i l

  class_at : (i : ℕ) → i < components T → Class T (inside T) (states_of T i)
  class_at i l = let x = lowest_state i l in component_class i x.0 x.1.state x.1.member

  one_of : (R : States) (B : Choices) → Maximal T R B
      → (i : ℕ) × (i < components T) × SameStates T R (states_of T i) × SameChoices T B (choices_of T i)
  one_of R B m =
      let x = only_classes T law (inside T) (G T law) R B m in
      let k = x.0 in
      let s = k.root in
      let h = k.acts.of.state in
      let e = own s (of_acts T s k.acts) in
      let i = component_of T s in
      let to : (t : ℕ) → t < T.states → R t ≡ true → states_of T i t ≡ true
      = λ t l f. (component_reached i s h e t l).1 ((k.reached t l).0 f) in
      let from : (t : ℕ) → t < T.states → states_of T i t ≡ true → R t ≡ true
      = λ t l f. (k.reached t l).1 ((component_reached i s h e t l).0 f) in (
        i,
        component_bound i s h e,
        (to, from),
        (
          (λ t c p a.
              let w = and_parts (R t) (inside T t c) (x.1 t c p a) in
              and_from (states_of T i t) (inside T t c) (to t p.state w.0) w.1),
          (λ t c p a.
              let w = and_parts (states_of T i t) (inside T t c) a in
              x.2 t c p (and_from (R t) (inside T t c) (from t p.state w.0) w.1)),
        ),
      )

  pub component_law : ComponentLaw T
  component_law = record {
    maximal = λ i l. class_maximal T law (inside T) (G T law) (states_of T i) (class_at i l);
    all = one_of;
    apart = λ i j s e f.
        sym (eqb-true (component_of T s) i (and_parts (in_component T s) (eqb (component_of T s) i) e).1)
        ∙ eqb-true (component_of T s) j (and_parts (in_component T s) (eqb (component_of T s) j) f).1;
    lowest = lowest_state;
    rising = λ i j s t l _ v w. num_rising T law (heads T) (states_of T) (component_numbers T law) i j s t l v w;
  }

  -- an inside choice, in the component of its state
  own_choice : (s c : ℕ) → Choice T s c → inside T s c ≡ true → states_of T (component_of T s) s ≡ true
  own_choice s c p a = own s (of_acts T s (record { choice = c; of = p; chosen = a }))

  pub inside_law : InsideLaw T
  inside_law = record {
    belongs = λ s c p. (
      (λ a.
          let e = own_choice s c p a in
          (component_of T s, component_bound (component_of T s) s p.state e, and_from (states_of T (component_of T s) s) (inside T s c) e a)),
      (λ x. (and_parts (states_of T x.0 s) (inside T s c) x.2).1),
    );
    stays = λ s c p. (
      (λ a.
          let e = own_choice s c p a in
          let i = component_of T s in (
            i,
            component_bound i s p.state e,
            e,
            λ b h. class_closed T law (inside T) (G T law) (component_class i s p.state e) s c b p a h e,
          )),
      (λ x. choice_state T law (inside T) (G T law) (states_of T x.0) (class_at x.0 x.1) s c p x.2 x.3),
    );
    acts = λ i s h e.
        let a = acts_of T s (and_parts (in_component T s) (eqb (component_of T s) i) e).0 in
        (a.choice, a.of, a.chosen);
    joined = λ i s t h k e f. (component_reached i s h e t k).0 f;
  }
