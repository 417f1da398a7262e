-- The steps of the numbering.
use Rattle.std.proofs.Common.{◌≡◌, ℕ, ◌+◌, ◌<◌, ◌≤◌, Bool, true, false, cond, List, [], ◌∷◌, ◌++◌, length, get_or, Some, None, Option, sym, refl, ap, ◌∙◌, subst, ap₂, ⊎_elim, add-one, arith}
use Rattle.std.specs.Bool.{then_some}
use Rattle.std.specs.Int.{from_bool}
use Rattle.std.proofs.lemmas.List.{get_or_append_left, get_or_push, length-append}
use Rattle.std.proofs.lemmas.Bool.{cases_eq}
use Rattle.table.specs.Sums.{sum_n}
use Rattle.table.specs.Table.{Table}
use Rattle.table.specs.Limits.{Lawful}
use Rattle.components.specs.Below.{any, count, first}
use Rattle.components.specs.EndComponent.{stays}
use Rattle.components.specs.Inside.{inside, reach}
use Rattle.components.specs.Nodes.{in_component, lowest, is_lowest, heads, node_of, component_at}
use Rattle.components.proofs.Below.{count_most}
use Rattle.components.proofs.Reach.{reach_all}
use Rattle.components.proofs.Labels.{first_same, is_low, not_low, heads_low, heads_not, node_low, node_known, component_low}
use Rattle.decomposition.specs.Bits.{bit_at}
use Rattle.decomposition.specs.Flags.{flag_at, Flagged}
use Rattle.decomposition.specs.Marking.{Shows}
use Rattle.decomposition.specs.Numbered.{Numbered}
use Rattle.decomposition.proofs.Searches.{any_ext}

pub sum_more : (k : ℕ) (f : ℕ → ℕ) → sum_n (k + 1) f ≡ sum_n k f + f k
sum_more k f = rw add-one refl

count_next : (k : ℕ) (p : ℕ → Bool) (b : Bool) → p k ≡ b → count (k + 1) p ≡ count k p + cond b 1 0
count_next k p b e = sum_more k (λ i. cond (p i) 1 0) ∙ ap (λ (x : Bool). count k p + cond x 1 0) e

pub chosen : {X : Type 0} (b : Bool) (x : X) → then_some b x ≡ cond b (Some x) None
chosen true x = refl
chosen false x = refl

pub one_more : (b : Bool) → from_bool b ≡ cond b 1 0
one_more true = refl
one_more false = refl

pub one_most : (b : Bool) → from_bool b ≤ 1
one_most true = omega arith
one_most false = omega arith

-- a place of a list with one more element
pushed : {X : Type 0} (xs : List X) (x d : X) (f : ℕ → X) (k : ℕ) → length xs ≡ k → ((i : ℕ) → i < k → get_or xs i d ≡ f i) → x ≡ f k
    → (i : ℕ) → i < k + 1 → get_or (xs ++ (x ∷ [])) i d ≡ f i
pushed xs x d f k l h e i j =
    ⊎_elim
    (λ (q : i ≡ k).
    get_or_push xs x d i (omega arith) ∙ e ∙ ap f (sym q))
    (λ (q : i ≡ k → ⊥). get_or_append_left xs (x ∷ []) d i (omega arith) ∙ h i (omega arith))
    (cases_eq i k)

module _ (T : Table) (law : Lawful T) where
  -- the bits of a state show its lowest state, and the flags whether it is in a component
  pub own_bit : (rows : List (List ℕ)) → Shows T.states rows (reach T (inside T)) → (s : ℕ) → s < T.states → bit_at rows s s ≡ true
  own_bit rows w s h = w s s h h ∙ reach_all law h stays

  pub low_shown : (rows : List (List ℕ)) → Shows T.states rows (reach T (inside T)) → (s : ℕ) → s < T.states
      → first T.states (bit_at rows s) ≡ lowest T s
  unfolding lowest
  low_shown rows w s h = first_same T.states (bit_at rows s) (reach T (inside T) s) (λ t l. w s t h l)

  pub flags_shown : (flags : List Bool) → Flagged T flags (inside T) → (s : ℕ) → s < T.states
      → any (T.choices s) (flag_at flags s) ≡ in_component T s
  unfolding in_component
  flags_shown flags f s h = any_ext (T.choices s) (flag_at flags s) (inside T s) (λ c l. f s c (record { state = h; choice = l }))

  module _ (k : ℕ) (node : List ℕ) (component : List (Option ℕ)) (components : ℕ) (hk : k < T.states)
      (N : Numbered T k node component components) where
    -- a state of a node that is numbered
    pub known_state : (low : ℕ) → low ≡ lowest T k → low < k → Numbered T (k + 1) (node ++ (get_or node low 0 ∷ [])) component components
    known_state low e h =
        let ne : lowest T k ≡ k → ⊥ = λ q. omega arith in
        let a = count_next k (is_lowest T) false (not_low T law k ne) in
        let b = count_next k (heads T) false (heads_not T law k ne) in
        let m = N.nodes in
        let n = N.counted in
        record {
          size = length-append node (get_or node low 0 ∷ []) ∙ ap (λ (x : ℕ). x + 1) N.size;
          nodes = omega arith;
          counted = omega arith;
          node_at = pushed node (get_or node low 0) 0 (node_of T) k N.size N.node_at
              (N.node_at low h ∙ ap (node_of T) e ∙ node_known T law k hk);
          component_at = λ v l. N.component_at v (omega arith);
        }

    -- the lowest state of a node
    pub fresh_state : (x : Option ℕ) (b : Bool) → lowest T k ≡ k → in_component T k ≡ b → x ≡ cond b (Some components) None
        → Numbered T (k + 1) (node ++ (length component ∷ [])) (component ++ (x ∷ [])) (components + cond b 1 0)
    fresh_state x b e f q =
        let a = count_next k (is_lowest T) true (is_low T law k e) in
        let c = count_next k (heads T) b (heads_low T law k e ∙ f) in
        let m = N.nodes in
        let n = N.counted in
        let here : node_of T k ≡ count k (is_lowest T) = node_low T law k e in
        let value : x ≡ component_at T (count k (is_lowest T)) =
        q ∙ ap₂ (λ (y : Bool) (z : ℕ). cond {A = Option ℕ} y (Some z) None) (sym f) n
        ∙ sym (component_low T law k hk e) ∙ ap (component_at T) here in
        record {
          size = length-append node (length component ∷ []) ∙ ap (λ (z : ℕ). z + 1) N.size;
          nodes = length-append component (x ∷ []) ∙ omega arith;
          counted = omega arith;
          node_at = pushed node (length component) 0 (node_of T) k N.size N.node_at (m ∙ sym here);
          component_at = λ v l. pushed component x None (component_at T) (count k (is_lowest T)) m N.component_at value v (omega arith);
        }

    -- the same, of lists to which these have been pushed
    pub known_pushed : (low x : ℕ) (node' : List ℕ) → low ≡ lowest T k → low < k → x ≡ get_or node low 0 → node' ≡ node ++ (x ∷ [])
        → Numbered T (k + 1) node' component components
    known_pushed low x node' e h f q =
        subst (λ xs. Numbered T (k + 1) xs component components) (sym (q ∙ ap (λ (y : ℕ). node ++ (y ∷ [])) f)) (known_state low e h)

    pub fresh_pushed : (number total : ℕ) (x : Option ℕ) (b : Bool) (node' : List ℕ) (component' : List (Option ℕ))
        → lowest T k ≡ k → in_component T k ≡ b → x ≡ cond b (Some components) None → number ≡ length component
        → node' ≡ node ++ (number ∷ []) → component' ≡ component ++ (x ∷ []) → total ≡ components + cond b 1 0
        → Numbered T (k + 1) node' component' total
    fresh_pushed number total x b node' component' e f q m u v w =
        subst (λ xs. Numbered T (k + 1) xs component' total) (sym (u ∙ ap (λ (y : ℕ). node ++ (y ∷ [])) m))
        (subst (λ ys. Numbered T (k + 1) (node ++ (length component ∷ [])) ys total) (sym v)
        (subst (Numbered T (k + 1) (node ++ (length component ∷ [])) (component ++ (x ∷ []))) (sym w) (fresh_state x b e f q)))

    -- there are at most as many nodes and components as states
    pub few : (length component ≤ k) × (components ≤ k)
    few =
        let a = count_most k (is_lowest T) in
        let b = count_most k (heads T) in
        let m = N.nodes in
        let n = N.counted in
        (omega arith, omega arith)
