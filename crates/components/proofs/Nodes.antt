-- The nodes are the components and the lone states.
use Rattle.std.proofs.Common.{◌≡◌, ℕ, ◌<◌, ◌≤◌, true, false, ◌&&◌, ◌↔◌, Some, None, Option, sym, refl, ⊎_elim, arith, MatchOption}
use Rattle.std.proofs.lemmas.Bool.{cases_Bool, both_ways, and_parts, eq-eqb, cond_both}
use Rattle.table.specs.Table.{Table}
use Rattle.table.specs.Limits.{Lawful}
use Rattle.components.specs.EndComponent.{States, Choices, Reaches, EndComponent}
use Rattle.components.specs.Inside.{inside}
use Rattle.components.specs.Nodes.{in_component, is_lowest, heads, nodes, node_of, components, component_of, states_of_node, states_of, lowest_of, component_at}
use Rattle.components.specs.Law.{SameStates, Lowest, Lone, Node, component, lone, NodeLaw}
use Rattle.components.proofs.Below.{first_le, first_at, count_le, count_most}
use Rattle.components.proofs.Reach.{reach_sound, reach_all}
use Rattle.components.proofs.Reversible.{moves, Acts, acts_more}
use Rattle.components.proofs.Classes.{class_maximal, only_classes, end_acts, end_within, of_states}
use Rattle.components.proofs.Numbering.{acts_of, of_acts, G, lowest_same, same_reach, in_same, num_same, num_keep, num_bound, num_lowest, num_rising, node_numbers}
use Rattle.components.proofs.Components.{own, component_bound, component_reached, component_law}

-- each node has its lowest state, and each component is a node
most : (T : Table) → nodes T ≤ T.states
unfolding nodes
most T = count_most T.states (is_lowest T)

fewer : (T : Table) → components T ≤ nodes T
unfolding components nodes heads
fewer T =
    count_le T.states (λ s. is_lowest T s && in_component T s) (is_lowest T)
    (λ s h e. (and_parts (is_lowest T s) (in_component T s) e).0)

module _ (T : Table) (law : Lawful T) where
  pub own_node : (s : ℕ) → states_of_node T (node_of T s) s ≡ true
  own_node s = eq-eqb (node_of T s) (node_of T s) refl

  pub node_bound : (v s : ℕ) → s < T.states → node_of T s ≡ v → v < nodes T
  unfolding nodes
  node_bound v s h q = num_bound T law (is_lowest T) (states_of_node T) (node_numbers T law) v s h (eq-eqb (node_of T s) v q)

  -- a node is what a state of it reaches by inside choices
  pub node_reached : (v s : ℕ) → s < T.states → states_of_node T v s ≡ true
      → (t : ℕ) → t < T.states → (states_of_node T v t ≡ true) ↔ Reaches T (inside T) s t
  node_reached v s h e t k = (
    (λ f.
        reach_sound T (inside T) s t
        (same_reach T law s t h k (num_same T law (is_lowest T) (states_of_node T) (node_numbers T law) v s t h k e f))),
    (λ r.
        num_keep T law (is_lowest T) (states_of_node T) (node_numbers T law) v s t h k e (lowest_same T law s t (reach_all law h r))),
  )

  lowest_state : (v : ℕ) → v < nodes T → (s : ℕ) × Lowest T (states_of_node T v) s
  unfolding nodes
  lowest_state v l = num_lowest T law (is_lowest T) (states_of_node T) (node_numbers T law) v l

  -- a state of an end component has an inside choice
  in_end : {R : States} {B : Choices} (s : ℕ) → EndComponent T R B → s < T.states → R s ≡ true → in_component T s ≡ true
  in_end s e h r = of_acts T s (acts_more (end_within T law (inside T) (G T law) e) (end_acts e s h r))

  pub lone_from : (s : ℕ) → s < T.states → in_component T s ≡ false → Lone T s
  lone_from s h f R B e r = both_ways (in_component T s) f (in_end s e h r)

  -- a lone state has no inside choice
  pub lone_out : (s : ℕ) → s < T.states → Lone T s → in_component T s ≡ false
  lone_out s h l =
      ⊎_elim
      (λ (e : in_component T s ≡ true).
      let i = component_of T s in
      absurd (l (states_of T i) _ ((component_law T law).maximal i (component_bound T law i s h (own T law s e))).component (own T law s e)))
      (λ (e : in_component T s ≡ false). e)
      (cases_Bool (in_component T s))

  -- without inside choices a state reaches itself alone
  pub alone : (s t : ℕ) → in_component T s ≡ false → Reaches T (inside T) s t → t ≡ s
  alone s t f r =
      ⊎_elim
      (λ (q : s ≡ t). sym q)
      (λ (a : Acts T (inside T) s). absurd (both_ways (in_component T s) f (of_acts T s a)))
      (moves r)

  node_at : (v s : ℕ) → s < T.states → states_of_node T v s ≡ true → Node T (states_of_node T v)
  node_at v s h e =
      ⊎_elim
      (λ (f : in_component T s ≡ true).
      component (of_states (states_of_node T v) (inside T))
      (class_maximal T law (inside T) (G T law) (states_of_node T v)
      (record { root = s; acts = acts_of T s f; reached = node_reached v s h e })))
      (λ (f : in_component T s ≡ false).
      lone s h (lone_from s h f) (λ t k. (
        (λ g. alone s t f ((node_reached v s h e t k).0 g)),
        (λ q. rw q e),
      )))
      (cases_Bool (in_component T s))

  number_of : (R : States) → Node T R → (v : ℕ) × (v < nodes T) × SameStates T R (states_of_node T v)
  number_of R (component B m) =
      let x = (only_classes T law (inside T) (G T law) R B m).0 in
      let s = x.root in
      let h = x.acts.of.state in
      let n = node_reached (node_of T s) s h (own_node s) in (
        node_of T s,
        node_bound (node_of T s) s h refl,
        ((λ t l f. (n t l).1 ((x.reached t l).0 f)), (λ t l f. (x.reached t l).1 ((n t l).0 f))),
      )
  number_of R (lone s h l f) = (
    node_of T s,
    node_bound (node_of T s) s h refl,
    (
      (λ t k e. let q : t ≡ s = (f t k).0 e in rw q (own_node s)),
      (λ t k e. (f t k).1 (alone s t (lone_out s h l) ((node_reached (node_of T s) s h (own_node s) t k).0 e))),
    ),
  )

  -- the lowest state of a node is in it
  lowest_in : (v : ℕ) → v < nodes T → (lowest_of T v < T.states) × (states_of_node T v (lowest_of T v) ≡ true)
  unfolding lowest_of
  lowest_in v l =
      let x = lowest_state v l in
      let h = x.1.state in
      let u = first_le T.states (states_of_node T v) x.0 x.1.member in
      (omega arith, first_at T.states (states_of_node T v) x.0 h x.1.member)

  same_sets : (v s : ℕ) → s < T.states → states_of_node T v s ≡ true → in_component T s ≡ true
      → SameStates T (states_of_node T v) (states_of T (component_of T s))
  same_sets v s h e f =
      let n = node_reached v s h e in
      let m = component_reached T law (component_of T s) s h (own T law s f) in
      ((λ t k g. (m t k).1 ((n t k).0 g)), (λ t k g. (n t k).1 ((m t k).0 g)))

  abbrev Which : ℕ → Option ℕ → Type 0
  Which v o =
      MatchOption o ((s : ℕ) → s < T.states → node_of T s ≡ v → Lone T s)
      (λ i. (i < components T) × SameStates T (states_of_node T v) (states_of T i))

  which_at : (v : ℕ) → v < nodes T → Which v (component_at T v)
  unfolding component_at
  which_at v l =
      let s = lowest_of T v in
      let x = lowest_in v l in
      cond_both (in_component T s) (Some (component_of T s)) None (Which v)
      (λ f. (component_bound T law (component_of T s) s x.0 (own T law s f), same_sets v s x.0 x.1 f))
      (λ f t h q.
      lone_from t h
      (⊎_elim
      (λ (g : in_component T t ≡ true).
      let e = eq-eqb (node_of T t) v q in
      let n = num_same T law (is_lowest T) (states_of_node T) (node_numbers T law) v s t x.0 h x.1 e in
      absurd (both_ways (in_component T s) f (in_same T law s t x.0 h n g)))
      (λ (g : in_component T t ≡ false). g)
      (cases_Bool (in_component T t))))

  pub node_law : NodeLaw T
  node_law = record {
    each = λ s h. node_bound (node_of T s) s h refl;
    node = λ v l. let x = lowest_state v l in node_at v x.0 x.1.state x.1.member;
    all = number_of;
    lowest = lowest_state;
    rising = λ v w s t l _ a b. num_rising T law (is_lowest T) (states_of_node T) (node_numbers T law) v w s t l a b;
    which = which_at;
    most = most T;
    fewer = fewer T;
  }
