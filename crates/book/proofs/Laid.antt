-- The lists made from a model and its parts hold what belongs to its table.
use Rattle.std.proofs.Common.{◌≡◌, ℕ, zero, suc, ◌+◌, ◌*◌, ◌<◌, Bool, false, cond, ◌&&◌, eqb, List, ◌∷◌, length, get_or, Some, vec_items, vec_len, filter, sym, refl, ap, ◌∙◌, subst, ap₂, arith}
use Rattle.std.specs.List.{range_with_len}
use Rattle.std.proofs.lemmas.Bool.{lt-ltb}
use Rattle.table.specs.Table.{Table}
use Rattle.components.specs.Nodes.{nodes, node_of, components, component_at}
use Rattle.rules.proofs.Nodes.{some_state, of_component, node_number, component_some}
use Rattle.decomposition.specs.Decomposed.{node_in, Decomposed}
use Rattle.decomposition.specs.declared.parts.Parts.{Parts}
use Rattle.book.specs.Listed.{Homes}
use Rattle.book.specs.Grouped.{states_at, Grouped}
use Rattle.book.specs.Facts.{InsidesAt, StartsRise, StartsWithin, MembersAt, HomesWithin, HomesAt}

-- two tests that agree on a run of numbers keep the same of them
kept_ext : (p q : ℕ → Bool) (s n : ℕ) → ((i : ℕ) → i < s + n → p i ≡ q i) → filter p (range_with_len s n) ≡ filter q (range_with_len s n)
kept_ext p q s zero h = refl
kept_ext p q s (suc n) h =
    ap₂ (λ (t : Bool) (xs : List ℕ). cond t (s ∷ xs) xs) (h s (omega arith)) (kept_ext p q (s + 1) n (λ i l. h i (omega arith)))

-- What the lists hold

module _ (T : Table) (p : Parts) (D : Decomposed T p) where
  pub component_size : length (vec_items p.component) ≡ nodes T
  component_size = sym p.component.ok.0 ∙ D.nodes_are

  pub insides : InsidesAt T (vec_items p.inside)
  insides s c q =
      let few = (D.lawful.choices s q.state).1 in
      let h = q.choice in
      sym (ap (λ (b : Bool). b && get_or (vec_items p.inside) (16 * s + c) false) (lt-ltb c 16 (omega arith))) ∙ D.inside_is s c q

  module _ (n : ℕ) (known : n ≡ T.states) (starts members : List ℕ) (G : Grouped (node_in p) n (vec_len p.component) starts members) where
    under : (v : ℕ) → v < nodes T → v < vec_len p.component
    under v h = subst (λ (i : ℕ). v < i) (sym D.nodes_are) h

    pub start_size : length starts ≡ nodes T + 1
    start_size = G.size ∙ ap (λ (i : ℕ). i + 1) D.nodes_are

    pub start_rises : StartsRise T starts
    start_rises v h = G.rises v (under v h)

    pub start_within : StartsWithin T starts members
    start_within v h = G.within v (under v h)

    pub members_at : MembersAt T starts members
    members_at v h =
        G.at v (under v h)
        ∙ ap (λ (i : ℕ). states_at (node_in p) i v) known
        ∙ kept_ext (λ s. eqb (node_in p s) v) (λ s. eqb (node_of T s) v) 0 T.states (λ s l. ap (λ (u : ℕ). eqb u v) (D.node_is s (omega arith)))

  module _ (home : List ℕ) (size : length home ≡ p.components) (H : Homes (vec_items p.component) home) where
    pub home_size : length home ≡ components T
    home_size = size ∙ D.components_are

    home_here : (j : ℕ) → j < components T → (get_or home j 0 < nodes T) × (component_at T (get_or home j 0) ≡ Some j)
    home_here j h =
        let o = some_state T D.lawful j h in
        let v : ℕ = node_of T o.0 in
        let known : v < nodes T = node_number T D.lawful o.0 o.1 in
        let own = of_component T D.lawful j o.0 o.2 in
        let at : component_at T v ≡ Some j = component_some T D.lawful v o.0 o.1 refl own.0 ∙ ap Some own.1 in
        let l : j < length home = subst (λ (i : ℕ). j < i) (sym home_size) h in
        let q = H v j (subst (λ (i : ℕ). v < i) (sym component_size) known) (D.component_is v known ∙ at) l in
        let r : get_or home j 0 < nodes T = subst (λ (i : ℕ). get_or home j 0 < i) component_size q.0 in
        (r, sym (D.component_is (get_or home j 0) r) ∙ q.1)

    pub home_within : HomesWithin T home
    home_within j h = (home_here j h).0

    pub home_at : HomesAt T home
    home_at j h = (home_here j h).1
