-- The classes of the greatest reversible set are the maximal end components.
use Rattle.std.proofs.Common.{◌≡◌, ℕ, ◌<◌, true, ◌&&◌, ◌||◌, eqb, ◌↔◌, refl, ⊎_elim}
use Rattle.std.proofs.lemmas.Bool.{and_parts, and_from, or_cases, or_left, or_right, eq-eqb, eqb-true}
use Rattle.table.specs.Table.{Table, successor}
use Rattle.table.specs.Limits.{Lawful}
use Rattle.components.specs.EndComponent.{States, Choices, Choice, Reaches, stays, EndComponent, Maximal, StatesIncluded, ChoicesIncluded}
use Rattle.components.specs.Inside.{reach}
use Rattle.components.proofs.Reach.{within, trans, once, more, narrowed, reach_iff}
use Rattle.components.proofs.Reversible.{Reversible, Greatest, Acts, acts_before, acts_more, back}

-- R is what a state with a choice in A reaches by A
pub record Class (T : Table) (A : Choices) (R : States) : Type 0 where
  pub root : ℕ
  pub acts : Acts T A root
  pub reached : (t : ℕ) → t < T.states → (R t ≡ true) ↔ Reaches T A root t

-- the choices of A whose state is in R
abbrev pub of_states : States → Choices → Choices
of_states R A s c = R s && A s c

-- the state and the successors of a choice of an end component are connected
pub end_reversible : {T : Table} {R : States} {B : Choices} → Lawful T → EndComponent T R B → Reversible T B
end_reversible {T} law e s c b p a h =
    e.connected (successor T s c b) s (within law p h) p.state (e.closed s c b p a h) (e.owned s c p a)

-- each state of an end component has a choice in it
pub end_acts : {T : Table} {R : States} {B : Choices} → EndComponent T R B → (s : ℕ) → s < T.states → R s ≡ true → Acts T B s
end_acts e s h r =
    let x = e.some_choice in
    acts_before (record { choice = x.1; of = x.2; chosen = x.3 })
    (e.connected s x.0 h x.2.state r (e.owned x.0 x.1 x.2 x.3))

module _ (T : Table) (law : Lawful T) (A : Choices) (G : Greatest T A) where
  pub end_within : {R : States} {B : Choices} → EndComponent T R B → ChoicesIncluded T B A
  end_within {R} {B} e = G.greatest B (end_reversible law e)

  -- two states of a class reach one another
  pub class_joined : {R : States} → Class T A R → (s t : ℕ) → s < T.states → t < T.states → R s ≡ true → R t ≡ true → Reaches T A s t
  class_joined k s t hs ht es et = trans (back G.reversible ((k.reached s hs).0 es)) ((k.reached t ht).0 et)

  -- a class is closed under steps of A
  pub class_closed : {R : States} → Class T A R → (s c b : ℕ) → Choice T s c → A s c ≡ true → b < T.branches s c
      → R s ≡ true → R (successor T s c b) ≡ true
  class_closed k s c b p a h e =
      (k.reached (successor T s c b) (within law p h)).1 (trans ((k.reached s p.state).0 e) (once c b p a h))

  class_has_root : {R : States} (k : Class T A R) → R k.root ≡ true
  class_has_root k = (k.reached k.root k.acts.of.state).1 stays

  class_end : (R : States) → Class T A R → EndComponent T R (of_states R A)
  class_end R k = record {
    some_state = (k.root, k.acts.of.state, class_has_root k);
    some_choice = (
      k.root,
      k.acts.choice,
      k.acts.of,
      and_from (R k.root) (A k.root k.acts.choice) (class_has_root k) k.acts.chosen,
    );
    owned = λ s c p e. (and_parts (R s) (A s c) e).0;
    closed = λ s c b p e h. let w = and_parts (R s) (A s c) e in class_closed k s c b p w.1 h w.0;
    connected = λ s t hs ht es et.
        narrowed (λ x. R x ≡ true) (class_closed k) (λ x c p a e. and_from (R x) (A x c) e a) es (class_joined k s t hs ht es et);
  }

  -- what an end component with the root of a class has lies in the class
  end_inside : {R R' : States} {B' : Choices} (k : Class T A R) → EndComponent T R' B' → R' k.root ≡ true → StatesIncluded T R' R
  end_inside k e r t ht et =
      (k.reached t ht).1 (more (end_within e) (e.connected k.root t k.acts.of.state ht r et))

  end_choices_inside : {R R' : States} {B' : Choices} (k : Class T A R) → EndComponent T R' B' → R' k.root ≡ true
      → ChoicesIncluded T B' (of_states R A)
  end_choices_inside {R} k e r s c p a =
      and_from (R s) (A s c) (end_inside k e r s p.state (e.owned s c p a)) (end_within e s c p a)

  pub class_maximal : (R : States) → Class T A R → Maximal T R (of_states R A)
  class_maximal R k = record {
    component = class_end R k;
    largest = λ R' B' e i w.
        let r : R' k.root ≡ true = i k.root k.acts.of.state (class_has_root k) in
        (end_inside k e r, end_choices_inside k e r);
  }

  -- the class of a state with a choice
  abbrev class_of : (s : ℕ) → Acts T A s → Class T A (reach T A s)
  class_of s a = record { root = s; acts = a; reached = λ t ht. reach_iff T A s t law a.of.state }

  -- a maximal end component is the class of each of its states
  pub only_classes : (R : States) (B : Choices) → Maximal T R B
      → Class T A R × ChoicesIncluded T B (of_states R A) × ChoicesIncluded T (of_states R A) B
  only_classes R B m = (k, end_choices_inside k e r, choices_back)
    where
      e : EndComponent T R B
      e = m.component

      s : ℕ
      s = e.some_choice.0

      acts : Acts T A s
      acts = acts_more (end_within e)
          (record { choice = e.some_choice.1; of = e.some_choice.2; chosen = e.some_choice.3 })

      r : R s ≡ true
      r = e.owned s e.some_choice.1 e.some_choice.2 e.some_choice.3

      K : States
      K = reach T A s

      l : StatesIncluded T K R × ChoicesIncluded T (of_states K A) B
      l = m.largest K (of_states K A) (class_end K (class_of s acts)) (end_inside (class_of s acts) e r) (end_choices_inside (class_of s acts) e r)

      k : Class T A R
      k = record {
        root = s;
        acts = acts;
        reached = λ t ht.
            let i = (class_of s acts).reached t ht in
            (λ et. i.0 (end_inside (class_of s acts) e r t ht et), λ w. l.0 t ht (i.1 w));
      }

      choices_back : ChoicesIncluded T (of_states R A) B
      choices_back x d q a =
          let w = and_parts (R x) (A x d) a in
          l.1 x d q (and_from (K x) (A x d) (end_inside (class_of s acts) e r x q.state w.0) w.1)

  -- a choice with all successors in the class of its state can be added
  added : ℕ → ℕ → Choices
  added s c x d = A x d || (eqb x s && eqb d c)

  pub choice_state : (R : States) → Class T A R → (s c : ℕ) → Choice T s c → R s ≡ true
      → ((b : ℕ) → b < T.branches s c → R (successor T s c b) ≡ true) → A s c ≡ true
  unfolding added
  choice_state R k s c p e all =
      G.greatest (added s c) reversible s c p
      (or_right (A s c) (eqb s s && eqb c c) (and_from (eqb s s) (eqb c c) (eq-eqb s s refl) (eq-eqb c c refl)))
    where
      wider : ChoicesIncluded T A (added s c)
      wider x d q a = or_left (A x d) (eqb x s && eqb d c) a

      returns : (x d b : ℕ) → x ≡ s → d ≡ c → b < T.branches x d → Reaches T A (successor T x d b) x
      returns x d b ex ed h =
          let h' : b < T.branches s c = rw (ex, ed) at h in
          rw (ex, ed) (class_joined k (successor T s c b) s (within law p h') p.state (all b h') e)

      reversible : Reversible T (added s c)
      reversible x d b q a h =
          more wider
          (⊎_elim
          (λ (l : A x d ≡ true). G.reversible x d b q l h)
          (λ (r : (eqb x s && eqb d c) ≡ true).
          let w = and_parts (eqb x s) (eqb d c) r in
          returns x d b (eqb-true x s w.0) (eqb-true d c w.1) h)
          (or_cases (A x d) (eqb x s && eqb d c) a))
