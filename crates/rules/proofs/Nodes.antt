-- Inside choices keep the node and the component of a state; a node's lowest state, component and depth.
use Rattle.std.proofs.Common.{◌≡◌, ℕ, ◌<◌, ◌≤◌, Bool, true, false, eqb, Some, None, Option, sym, refl, ap, ◌∙◌, ⊎_elim, arith}
use Rattle.std.proofs.lemmas.Bool.{cases_Bool, both_ways, cond-true, cond-false, eq-eqb, eqb-true, and_parts, and_from}
use Rattle.table.specs.Table.{Table, successor}
use Rattle.table.specs.Limits.{Lawful}
use Rattle.components.specs.Below.{count}
use Rattle.components.specs.EndComponent.{Reaches}
use Rattle.components.specs.Inside.{inside}
use Rattle.components.specs.Nodes.{in_component, lowest, is_lowest, heads, nodes, node_of, components, component_of, states_of_node, states_of, lowest_of, component_at}
use Rattle.components.specs.Depth.{depth}
use Rattle.components.proofs.Below.{first_le, first_at}
use Rattle.components.proofs.Reach.{within, once}
use Rattle.components.proofs.Reversible.{inside_exists}
use Rattle.components.proofs.Numbering.{acts_of, of_acts, in_same, num_same, node_numbers}
use Rattle.components.proofs.Components.{own, component_bound, component_law}
use Rattle.components.proofs.Nodes.{own_node, node_bound, node_reached, alone, node_law}
use Rattle.components.proofs.Depth.{depth_law}

some_number : Option ℕ → ℕ
some_number (Some i) = i
some_number None = 0

is_some : Option ℕ → Bool
is_some (Some i) = true
is_some None = false

module _ (T : Table) (law : Lawful T) where
  -- the successors of an inside choice are of its node
  pub stays_node : (s c b : ℕ) → inside T s c ≡ true → b < T.branches s c → node_of T (successor T s c b) ≡ node_of T s
  stays_node s c b i l =
      let p = inside_exists T s c i in
      let u = successor T s c b in
      eqb-true (node_of T u) (node_of T s) ((node_reached T law (node_of T s) s p.state (own_node T law s) u (within law p l)).1 (once c b p i l))

  same_lowest : (s t : ℕ) → s < T.states → t < T.states → node_of T s ≡ node_of T t → lowest T s ≡ lowest T t
  same_lowest s t h k q =
      num_same T law (is_lowest T) (states_of_node T) (node_numbers T law) (node_of T t) s t h k (eq-eqb (node_of T s) (node_of T t) q) (own_node T law t)

  -- states of one node reach each other by inside choices
  pub joined : (s t : ℕ) → s < T.states → t < T.states → node_of T s ≡ node_of T t → Reaches T (inside T) s t
  joined s t h k q = (node_reached T law (node_of T s) s h (own_node T law s) t k).0 (eq-eqb (node_of T t) (node_of T s) (sym q))

  -- a state with an inside choice is in a component, and the other way
  pub inside_component : (s c : ℕ) → inside T s c ≡ true → in_component T s ≡ true
  inside_component s c i = of_acts T s (record { choice = c; of = inside_exists T s c i; chosen = i })

  pub inside_choice : (s : ℕ) → in_component T s ≡ true → (c : ℕ) × (c < T.choices s) × (inside T s c ≡ true)
  inside_choice s e = let a = acts_of T s e in (a.choice, a.of.choice, a.chosen)

  pub none_inside : (s c : ℕ) → in_component T s ≡ false → inside T s c ≡ false
  none_inside s c e =
      ⊎_elim
      (λ (i : inside T s c ≡ true). absurd (both_ways (in_component T s) e (inside_component s c i)))
      (λ (i : inside T s c ≡ false). i)
      (cases_Bool (inside T s c))

  -- the node of a lone state has no other
  pub lone_node : (s t : ℕ) → s < T.states → t < T.states → node_of T t ≡ node_of T s → in_component T s ≡ false → t ≡ s
  lone_node s t h k q e = alone T law s t e (joined s t h k (sym q))

  -- states of one node are in a component together, the same one
  pub in_together : (s t : ℕ) → s < T.states → t < T.states → node_of T s ≡ node_of T t → in_component T t ≡ true → in_component T s ≡ true
  in_together s t h k q e = in_same T law s t h k (same_lowest s t h k q) e

  pub same_component : (s t : ℕ) → s < T.states → t < T.states → node_of T s ≡ node_of T t → component_of T s ≡ component_of T t
  unfolding component_of
  same_component s t h k q = ap (λ (l : ℕ). count l (heads T)) (same_lowest s t h k q)

  pub own_component : (s : ℕ) → s < T.states → in_component T s ≡ true → component_of T s < components T
  own_component s h e = component_bound T law (component_of T s) s h (own T law s e)

  -- what it is to be a state of component k
  pub of_component : (k s : ℕ) → states_of T k s ≡ true → (in_component T s ≡ true) × (component_of T s ≡ k)
  of_component k s e =
      let w = and_parts (in_component T s) (eqb (component_of T s) k) e in
      (w.0, eqb-true (component_of T s) k w.1)

  pub to_component : (k s : ℕ) → in_component T s ≡ true → component_of T s ≡ k → states_of T k s ≡ true
  to_component k s e q = and_from (in_component T s) (eqb (component_of T s) k) e (eq-eqb (component_of T s) k q)

  pub some_state : (k : ℕ) → k < components T → (s : ℕ) × (s < T.states) × (states_of T k s ≡ true)
  some_state k l = let x = (component_law T law).lowest k l in (x.0, x.1.state, x.1.member)

  -- an inside choice keeps the component
  pub stays_in : (k s c b : ℕ) → inside T s c ≡ true → b < T.branches s c → states_of T k s ≡ true → states_of T k (successor T s c b) ≡ true
  stays_in k s c b i l e =
      let p = inside_exists T s c i in
      let u = successor T s c b in
      let hu = within law p l in
      let q = stays_node s c b i l in
      let w = of_component k s e in
      to_component k u (in_together u s hu p.state q w.0) (same_component u s hu p.state q ∙ w.1)

  pub stays_out : (k s c b : ℕ) → inside T s c ≡ true → b < T.branches s c → states_of T k (successor T s c b) ≡ true → states_of T k s ≡ true
  stays_out k s c b i l e =
      let p = inside_exists T s c i in
      let u = successor T s c b in
      let hu = within law p l in
      let q = sym (stays_node s c b i l) in
      let w = of_component k u e in
      to_component k s (in_together s u p.state hu q w.0) (same_component s u p.state hu q ∙ w.1)

  -- Nodes

  pub node_number : (s : ℕ) → s < T.states → node_of T s < nodes T
  node_number s h = node_bound T law (node_of T s) s h refl

  pub lowest_state : (v : ℕ) → v < nodes T → lowest_of T v < T.states
  unfolding lowest_of
  lowest_state v l =
      let x = (node_law T law).lowest v l in
      let h = x.1.state in
      let u = first_le T.states (states_of_node T v) x.0 x.1.member in
      omega arith

  pub lowest_node : (v : ℕ) → v < nodes T → node_of T (lowest_of T v) ≡ v
  unfolding lowest_of
  lowest_node v l =
      let x = (node_law T law).lowest v l in
      eqb-true (node_of T (lowest_of T v)) v (first_at T.states (states_of_node T v) x.0 x.1.state x.1.member)

  -- the component that a node is, read at one of its states
  pub component_some : (v s : ℕ) → s < T.states → node_of T s ≡ v → in_component T s ≡ true → component_at T v ≡ Some (component_of T s)
  unfolding component_at
  component_some v s h q e =
      let l = node_bound T law v s h q in
      let f = lowest_of T v in
      let n : node_of T f ≡ node_of T s = lowest_node v l ∙ sym q in
      cond-true (in_component T f) (Some (component_of T f)) None (in_together f s (lowest_state v l) h n e)
      ∙ ap (λ (i : ℕ). Some i) (same_component f s (lowest_state v l) h n)

  pub component_none : (v s : ℕ) → s < T.states → node_of T s ≡ v → in_component T s ≡ false → component_at T v ≡ None
  unfolding component_at
  component_none v s h q e =
      let l = node_bound T law v s h q in
      let f = lowest_of T v in
      ⊎_elim
      (λ (g : in_component T f ≡ true).
      absurd (both_ways (in_component T s) e (in_together s f h (lowest_state v l) (q ∙ sym (lowest_node v l)) g)))
      (λ (g : in_component T f ≡ false). cond-false (in_component T f) (Some (component_of T f)) None g)
      (cases_Bool (in_component T f))

  pub component_is : (v i s : ℕ) → s < T.states → node_of T s ≡ v → component_at T v ≡ Some i → (in_component T s ≡ true) × (component_of T s ≡ i)
  unfolding some_number is_some
  component_is v i s h q e =
      ⊎_elim
      (λ (g : in_component T s ≡ true). (g, ap some_number (sym (component_some v s h q g) ∙ e)))
      (λ (g : in_component T s ≡ false). absurd (both_ways (is_some (Some i)) (ap is_some (sym e ∙ component_none v s h q g)) refl))
      (cases_Bool (in_component T s))

  -- Depth

  pub depth_low : (v : ℕ) → v < nodes T → depth T v ≤ T.states
  depth_low v l = (depth_law T law).bound v l

  -- a leaving choice has a branch to a smaller depth
  pub depth_falls : (s c : ℕ) → s < T.states → c < T.choices s → inside T s c ≡ false
      → (b : ℕ) × (b < T.branches s c) × (depth T (node_of T (successor T s c b)) < depth T (node_of T s))
  depth_falls s c h k i =
      ((depth_law T law).least (node_of T s) (node_number s h)).falls s c
      (record { choice = record { state = h; choice = k }; node = refl; out = i })
