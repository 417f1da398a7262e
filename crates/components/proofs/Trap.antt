-- No set of nodes can be stayed in by leaving choices of each of them.
use Rattle.std.proofs.Common.{◌≡◌, ℕ, ◌<◌, Bool, true, false, not, ◌&&◌, ⊎_elim}
use Rattle.std.proofs.lemmas.Bool.{and_parts, and_from, cases_Bool, both_ways, not-true, not_from_false}
use Rattle.table.specs.Table.{Table, successor}
use Rattle.table.specs.Limits.{Lawful}
use Rattle.components.specs.Below.{every}
use Rattle.components.specs.EndComponent.{States, Choices, Choice, Reaches, stays}
use Rattle.components.specs.Inside.{reach}
use Rattle.components.proofs.Below.{every_at, every_from}
use Rattle.components.proofs.Settles.{bottom}
use Rattle.components.proofs.Reach.{within, trans, once, KeptBy, kept, narrowed, reach_sound, reach_all}
use Rattle.components.proofs.Reversible.{Reversible, Greatest}

-- the choices whose state and successors are all outside D
staying : Table → States → Choices
staying T D s c = not (D s) && every (T.branches s c) (λ b. not (D (successor T s c b)))

-- the part of B that m reaches by B
part : Table → Choices → ℕ → Choices
part T B m s c = reach T B m s && B s c

-- from a state to which all that it reaches leads back, a reversible set is reached
part_reversible : (T : Table) → Lawful T → (B : Choices) (m : ℕ) → m < T.states
    → ((t : ℕ) → t < T.states → reach T B m t ≡ true → reach T B t m ≡ true) → Reversible T (part T B m)
unfolding part
part_reversible T law B m h low s c b p a l =
    let w = and_parts (reach T B m s) (B s c) a in
    let u = successor T s c b in
    let hu : u < T.states = within law p l in
    let eu = onward s c b p w.1 l w.0 in
    narrowed (λ x. reach T B m x ≡ true) onward (λ x d q e r. and_from (reach T B m x) (B x d) r e) eu
    (trans (reach_sound T B u m (low u hu eu)) (reach_sound T B m s w.0))
  where
    onward : KeptBy T B (λ x. reach T B m x ≡ true)
    onward s c b p a l e = reach_all law h (trans (reach_sound T B m s e) (once c b p a l))

-- some choice outside A of a state that q reaches has no branch into D
abbrev pub Stays : Table → Choices → States → ℕ → Type 0
Stays T A D q =
    (t : ℕ) × (c : ℕ) × Reaches T A q t × Choice T t c × (A t c ≡ false)
    × ((b : ℕ) → b < T.branches t c → D (successor T t c b) ≡ false)

module _ (T : Table) (law : Lawful T) (A : Choices) (G : Greatest T A) (D : States)
    (whole : (s t : ℕ) → s < T.states → Reaches T A s t → D s ≡ true → D t ≡ true) where
  staying_from : (s c : ℕ) → D s ≡ false → ((b : ℕ) → b < T.branches s c → D (successor T s c b) ≡ false)
      → staying T D s c ≡ true
  unfolding staying
  staying_from s c e h =
      and_from (not (D s)) (every (T.branches s c) (λ b. not (D (successor T s c b)))) (not_from_false (D s) e)
      (every_from (T.branches s c) (λ b. not (D (successor T s c b))) (λ b l. not_from_false (D (successor T s c b)) (h b l)))

  staying_out : KeptBy T (staying T D) (λ x. D x ≡ false)
  unfolding staying
  staying_out s c b p a l e =
      let w = and_parts (not (D s)) (every (T.branches s c) (λ d. not (D (successor T s c d)))) a in
      not-true (D (successor T s c b)) (every_at (T.branches s c) (λ d. not (D (successor T s c d))) w.1 b l)

  -- a choice of A outside D stays outside D
  own_out : KeptBy T A (λ x. D x ≡ false)
  own_out s c b p a l e =
      let u = successor T s c b in
      ⊎_elim
      (λ (f : D u ≡ true). absurd (both_ways (D s) e (whole u s (within law p l) (G.reversible s c b p a l) f)))
      (λ (f : D u ≡ false). f)
      (cases_Bool (D u))

  own_staying : (s c : ℕ) → Choice T s c → A s c ≡ true → D s ≡ false → staying T D s c ≡ true
  own_staying s c p a e = staying_from s c e (λ b l. own_out s c b p a l e)

  -- a state that all that it reaches by `staying` leads back to has no such choice
  no_bottom : (m : ℕ) → m < T.states
      → ((t : ℕ) → t < T.states → reach T (staying T D) m t ≡ true → reach T (staying T D) t m ≡ true)
      → D m ≡ false → Stays T A D m → ⊥
  unfolding part
  no_bottom m h low e w =
      let t = w.0 in
      let c = w.1 in
      let r = w.2 in
      let et : D t ≡ false = kept (λ x. D x ≡ false) own_out e r in
      both_ways (A t c) w.4
      (G.greatest (part T (staying T D) m) (part_reversible T law (staying T D) m h low) t c w.3
      (and_from (reach T (staying T D) m t) (staying T D t c)
      (reach_all law h (narrowed (λ x. D x ≡ false) own_out own_staying e r)) (staying_from t c et w.5)))

  pub trap : ((q : ℕ) → q < T.states → D q ≡ false → Stays T A D q) → (s : ℕ) → s < T.states → D s ≡ false → ⊥
  trap each s h e = at_bottom (bottom T.states P loops joins s h)
    where
      P : ℕ → ℕ → Bool
      P = reach T (staying T D)

      loops : (x : ℕ) → x < T.states → P x x ≡ true
      loops x hx = reach_all law hx stays

      joins : (x y z : ℕ) → x < T.states → y < T.states → z < T.states → P x y ≡ true → P y z ≡ true → P x z ≡ true
      joins x y z hx hy hz f g = reach_all law hx (trans (reach_sound T (staying T D) x y f) (reach_sound T (staying T D) y z g))

      at_bottom : (m : ℕ) × (m < T.states) × (P s m ≡ true) × ((t : ℕ) → t < T.states → P m t ≡ true → P t m ≡ true) → ⊥
      at_bottom r =
          let em : D r.0 ≡ false = kept (λ x. D x ≡ false) staying_out e (reach_sound T (staying T D) s r.0 r.2) in
          no_bottom r.0 r.1 r.3 em (each r.0 r.1 em)
