-- Within a node each state but t has an inside choice with a branch one step nearer to t.
use Rattle.std.proofs.Common.{◌≡◌, ℕ, suc, ◌<◌, ◌≤◌, Bool, true, ◌&&◌, eqb, ltb, refl, ◌∙◌, arith}
use Rattle.std.proofs.lemmas.Bool.{eq-eqb, eqb-true, ne_eqb, and_parts, and_from, ltb-true}
use Rattle.table.specs.Table.{Table, successor}
use Rattle.table.specs.Limits.{Lawful}
use Rattle.components.specs.Below.{first}
use Rattle.components.specs.EndComponent.{Reaches, stays, steps}
use Rattle.components.specs.Inside.{inside}
use Rattle.components.specs.Nodes.{node_of}
use Rattle.components.proofs.Below.{any_some, any_from, first_le, first_at}
use Rattle.rules.specs.Layers.{layer}
use Rattle.rules.specs.Play.{enters, inward, distance, toward}
use Rattle.rules.specs.Meaning.{InsideWalk, arrived, onward}
use Rattle.components.proofs.Reversible.{inside_exists}
use Rattle.rules.proofs.Nodes.{joined, stays_node}
use Rattle.rules.proofs.Layers as layers

pub enters_mono : (T : Table) → Lawful T → (P Q : ℕ → Bool) → ((u : ℕ) → u < T.states → P u ≡ true → Q u ≡ true)
    → (s c : ℕ) → s < T.states → c < T.choices s → enters T P s c ≡ true → enters T Q s c ≡ true
enters_mono T L P Q k s c h l e =
    let x = any_some (T.branches s c) (λ b. P (successor T s c b)) e in
    any_from (T.branches s c) (λ b. Q (successor T s c b)) x.0 x.1
    (k (successor T s c x.0) (L.successors s c x.0 h l x.1) x.2)

module _ (T : Table) (L : Lawful T) where
  -- what leads into a set leads into a larger one
  pub inward_mono : (P Q : ℕ → Bool) → ((u : ℕ) → u < T.states → P u ≡ true → Q u ≡ true)
      → (s : ℕ) → s < T.states → inward T P s ≡ true → inward T Q s ≡ true
  inward_mono P Q k s h e =
      let x = any_some (T.choices s) (λ c. inside T s c && enters T P s c) e in
      let w = and_parts (inside T s x.0) (enters T P s x.0) x.2 in
      any_from (T.choices s) (λ c. inside T s c && enters T Q s c) x.0 x.1
      (and_from (inside T s x.0) (enters T Q s x.0) w.0 (enters_mono T L P Q k s x.0 h x.1 w.1))

  module _ (t : ℕ) where
    abbrev pub goal : ℕ → Bool
    goal u = eqb u t

  -- a branch of an inside choice into a layer leads to the next layer
  pub inward_step : (t k s c b : ℕ) → c < T.choices s → inside T s c ≡ true → b < T.branches s c
      → layer (goal t) (inward T) k (successor T s c b) ≡ true → layer (goal t) (inward T) (suc k) s ≡ true
  inward_step t k s c b h i l e =
      layers.steps T.states (goal t) (inward T) inward_mono k s
      (any_from (T.choices s) (λ d. inside T s d && enters T (layer (goal t) (inward T) k) s d) c h
      (and_from (inside T s c) (enters T (layer (goal t) (inward T) k) s c) i
      (any_from (T.branches s c) (λ d. layer (goal t) (inward T) k (successor T s c d)) b l e)))

  -- what reaches t is in a layer about t
  pub near : {s t : ℕ} → Reaches T (inside T) s t → (k : ℕ) × (layer (goal t) (inward T) k s ≡ true)
  unfolding layer
  near (stays {s = s}) = (0, eq-eqb s s refl)
  near {t = t} (steps {s = s} c b p i l r) = let x = near r in (suc x.0, inward_step t x.0 s c b p.choice i l x.1)

  pub distance_most : (t s : ℕ) → distance T t s ≤ suc T.states
  unfolding distance
  distance_most t s = layers.level_most T.states (goal t) (inward T) inward_mono s

  pub distance_zero : (t s : ℕ) → s ≡ t → distance T t s ≡ 0
  unfolding distance
  distance_zero t s e = layers.level_goal T.states (goal t) (inward T) inward_mono s (eq-eqb s t e)

  -- what k branches lead from is in layer k
  walk_layer : {t k s : ℕ} → InsideWalk T t k s → layer (goal t) (inward T) k s ≡ true
  unfolding layer
  walk_layer {t = t} arrived = eq-eqb t t refl
  walk_layer {t = t} (onward {k = k} {s = s} c b i l w) = inward_step t k s c b (inside_exists T s c i).choice i l (walk_layer w)

  pub distance_least : (t k s : ℕ) → InsideWalk T t k s → distance T t s ≤ k
  unfolding distance
  distance_least t k s w = layers.level_least T.states (goal t) (inward T) inward_mono k s (walk_layer w)

  -- what `toward` plays
  pub record Nearer (t s c : ℕ) : Type 0 where
    pub choice : c < T.choices s
    pub inside_choice : inside T s c ≡ true
    pub branch : (b : ℕ) × (b < T.branches s c) × (suc (distance T t (successor T s c b)) ≡ distance T t s)

  -- a branch to a state that is nearer leads one step nearer
  one_nearer : (t s c b : ℕ) → t < T.states → s < T.states → node_of T s ≡ node_of T t → c < T.choices s → inside T s c ≡ true
      → b < T.branches s c → distance T t (successor T s c b) < distance T t s → suc (distance T t (successor T s c b)) ≡ distance T t s
  unfolding distance
  one_nearer t s c b ht hs e h i l d =
      let u = successor T s c b in
      let hu = L.successors s c b hs h l in
      let k = near (joined T L u t hu ht (stays_node T L s c b i l ∙ e)) in
      let a = layers.level_in T.states (goal t) (inward T) inward_mono k.0 u hu k.1 in
      let m = layers.level_least T.states (goal t) (inward T) inward_mono (suc (distance T t u)) s (inward_step t (distance T t u) s c b h i l a) in
      omega arith

  some_nearer : (t s : ℕ) → t < T.states → s < T.states → node_of T s ≡ node_of T t → (s ≡ t → ⊥)
      → (c : ℕ) × (c < T.choices s) × ((inside T s c && enters T (λ u. eqb (suc (distance T t u)) (distance T t s)) s c) ≡ true)
  unfolding distance
  some_nearer t s ht hs e n =
      let d : ℕ → ℕ = distance T t in
      let k = near (joined T L s t hs ht e) in
      let f = layers.level_falls T.states (goal t) (inward T) inward_mono k.0 s hs k.1 (ne_eqb s t n) in
      let x = any_some (T.choices s) (λ c. inside T s c && enters T (λ u. ltb (d u) (d s)) s c) f in
      let c = x.0 in
      let w = and_parts (inside T s c) (enters T (λ u. ltb (d u) (d s)) s c) x.2 in
      let y = any_some (T.branches s c) (λ b. ltb (d (successor T s c b)) (d s)) w.1 in
      let q = one_nearer t s c y.0 ht hs e x.1 w.0 y.1 (ltb-true (d (successor T s c y.0)) (d s) y.2) in (
        c,
        x.1,
        and_from (inside T s c) (enters T (λ u. eqb (suc (d u)) (d s)) s c) w.0
            (any_from (T.branches s c) (λ b. eqb (suc (d (successor T s c b))) (d s)) y.0 y.1
            (eq-eqb (suc (d (successor T s c y.0))) (d s) q)),
      )

  pub toward_nearer : (t s : ℕ) → t < T.states → s < T.states → node_of T s ≡ node_of T t → (s ≡ t → ⊥) → Nearer t s (toward T t s)
  unfolding toward
  toward_nearer t s ht hs e n =
      let d : ℕ → ℕ = distance T t in
      let p : ℕ → Bool = λ c. inside T s c && enters T (λ u. eqb (suc (d u)) (d s)) s c in
      let x = some_nearer t s ht hs e n in
      let a = first_le (T.choices s) p x.0 x.2 in
      let g = first_at (T.choices s) p x.0 x.1 x.2 in
      let c = first (T.choices s) p in
      let w = and_parts (inside T s c) (enters T (λ u. eqb (suc (d u)) (d s)) s c) g in
      let y = any_some (T.branches s c) (λ b. eqb (suc (d (successor T s c b))) (d s)) w.1 in
      let l = x.1 in
      record { choice = omega arith; inside_choice = w.0; branch = (y.0, y.1, eqb-true (suc (d (successor T s c y.0))) (d s) y.2) }
