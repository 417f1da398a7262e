-- Reachability by a set of choices, and that Warshall's rule decides it.
use Rattle.std.proofs.Common.{◌≡◌, ℕ, zero, suc, ◌<◌, true, ◌&&◌, ◌||◌, eqb, ◌↔◌, refl, subst, ⊎_elim, arith}
use Rattle.std.proofs.lemmas.Bool.{cases_eq, and_parts, and_from, or_cases, or_left, or_right, eq-eqb, eqb-true}
use Rattle.table.specs.Table.{Table, successor}
use Rattle.table.specs.Limits.{Lawful}
use Rattle.components.specs.Below.{any}
use Rattle.components.specs.EndComponent.{Choices, Choice, Reaches, stays, steps, ChoicesIncluded}
use Rattle.components.specs.Inside.{leads, via, reach}
use Rattle.components.proofs.Below.{any_some, any_from, grid_from, grid_true}

-- a branch of a choice leads to a state
pub within : {T : Table} {s c b : ℕ} → Lawful T → Choice T s c → b < T.branches s c → successor T s c b < T.states
within {T} {s} {c} {b} law p h = law.successors s c b p.state p.choice h

pub trans : {T : Table} {A : Choices} {s t u : ℕ} → Reaches T A s t → Reaches T A t u → Reaches T A s u
trans stays q = q
trans (steps c b p a h r) q = steps c b p a h (trans r q)

-- one step
pub once : {T : Table} {A : Choices} {s : ℕ} (c b : ℕ) → Choice T s c → A s c ≡ true → b < T.branches s c
    → Reaches T A s (successor T s c b)
once c b p a h = steps c b p a h stays

pub same : {T : Table} {A : Choices} {s t : ℕ} → s ≡ t → Reaches T A s t
same {T} {A} {s} e = subst (λ (x : ℕ). Reaches T A s x) e stays

pub more : {T : Table} {A B : Choices} {s t : ℕ} → ChoicesIncluded T A B → Reaches T A s t → Reaches T B s t
more k stays = stays
more k (steps {s = s} c b p a h r) = steps c b p (k s c p a) h (more k r)

-- P is kept by each step of A
abbrev pub KeptBy : Table → Choices → (ℕ → Type 0) → Type 0
KeptBy T A P = (s c b : ℕ) → Choice T s c → A s c ≡ true → b < T.branches s c → P s → P (successor T s c b)

-- a property that steps of A keep holds of all that is reached, and the way there is by such states
pub kept : {T : Table} {A : Choices} {s t : ℕ} (P : ℕ → Type 0) → KeptBy T A P → P s → Reaches T A s t → P t
kept P k h stays = h
kept P k h (steps {s = s} c b p a l r) = kept P k (k s c b p a l h) r

pub narrowed : {T : Table} {A B : Choices} {s t : ℕ} (P : ℕ → Type 0) → KeptBy T A P
    → ((s c : ℕ) → Choice T s c → A s c ≡ true → P s → B s c ≡ true)
    → P s → Reaches T A s t → Reaches T B s t
narrowed P k w h stays = stays
narrowed P k w h (steps {s = s} c b p a l r) = steps c b p (w s c p a h) l (narrowed P k w (k s c b p a l h) r)

pub bounded : {T : Table} {A : Choices} {s t : ℕ} → Lawful T → s < T.states → Reaches T A s t → t < T.states
bounded {T} law h r = kept (λ x. x < T.states) (λ s c b p a l _. within law p l) h r

-- The decision

leads_sound : (T : Table) (A : Choices) (s t : ℕ) → s < T.states → leads T A s t ≡ true → Reaches T A s t
leads_sound T A s t h e =
    let x = any_some (T.choices s) (λ c. A s c && any (T.branches s c) (λ b. eqb (successor T s c b) t)) e in
    let c = x.0 in
    let y = and_parts (A s c) (any (T.branches s c) (λ b. eqb (successor T s c b) t)) x.2 in
    let z = any_some (T.branches s c) (λ b. eqb (successor T s c b) t) y.1 in
    steps c z.0 (record { state = h; choice = x.1 }) y.0 z.1 (same (eqb-true (successor T s c z.0) t z.2))

leads_once : (T : Table) (A : Choices) (s c b : ℕ) → Choice T s c → A s c ≡ true → b < T.branches s c
    → leads T A s (successor T s c b) ≡ true
leads_once T A s c b p a h =
    let t = successor T s c b in
    any_from (T.choices s) (λ d. A s d && any (T.branches s d) (λ k. eqb (successor T s d k) t)) c p.choice
    (and_from (A s c) (any (T.branches s c) (λ k. eqb (successor T s c k) t)) a
    (any_from (T.branches s c) (λ k. eqb (successor T s c k) t) b h (eq-eqb t t refl)))

module _ (T : Table) (A : Choices) where
  start_parts : (s t : ℕ) → via T A 0 s t ≡ true → (s < T.states) × (t < T.states) × ((eqb s t || leads T A s t) ≡ true)
  unfolding via
  start_parts s t e = grid_true T.states (λ _. T.states) (λ x y. eqb x y || leads T A x y) s t e

  start_from : (s t : ℕ) → s < T.states → t < T.states → (eqb s t || leads T A s t) ≡ true → via T A 0 s t ≡ true
  unfolding via
  start_from s t h k e = grid_from T.states (λ _. T.states) (λ x y. eqb x y || leads T A x y) s t h k e

  next_parts : (k s t : ℕ) → via T A (suc k) s t ≡ true
      → (s < T.states) × (t < T.states) × ((via T A k s t || (via T A k s k && via T A k k t)) ≡ true)
  unfolding via
  next_parts k s t e =
      grid_true T.states (λ _. T.states) (λ x y. via T A k x y || (via T A k x k && via T A k k y)) s t e

  next_from : (k s t : ℕ) → s < T.states → t < T.states → (via T A k s t || (via T A k s k && via T A k k t)) ≡ true
      → via T A (suc k) s t ≡ true
  unfolding via
  next_from k s t h l e =
      grid_from T.states (λ _. T.states) (λ x y. via T A k x y || (via T A k x k && via T A k k y)) s t h l e

  via_in : (k s t : ℕ) → via T A k s t ≡ true → (s < T.states) × (t < T.states)
  via_in zero s t e = let x = start_parts s t e in (x.0, x.1)
  via_in (suc k) s t e = let x = next_parts k s t e in (x.0, x.1)

  via_sound : (k s t : ℕ) → via T A k s t ≡ true → Reaches T A s t
  via_sound zero s t e =
      let x = start_parts s t e in
      ⊎_elim (λ (q : eqb s t ≡ true). same (eqb-true s t q)) (leads_sound T A s t x.0) (or_cases (eqb s t) (leads T A s t) x.2)
  via_sound (suc k) s t e =
      ⊎_elim
      (via_sound k s t)
      (λ (q : (via T A k s k && via T A k k t) ≡ true).
      let w = and_parts (via T A k s k) (via T A k k t) q in
      trans (via_sound k s k w.0) (via_sound k k t w.1))
      (or_cases (via T A k s t) (via T A k s k && via T A k k t) (next_parts k s t e).2)

  via_wider : (k s t : ℕ) → via T A 0 s t ≡ true → via T A k s t ≡ true
  via_wider zero s t e = e
  via_wider (suc k) s t e =
      let x = start_parts s t e in
      next_from k s t x.0 x.1 (or_left (via T A k s t) (via T A k s k && via T A k k t) (via_wider k s t e))

  -- to k by states up to k is to k by states below k
  via_to : (k s : ℕ) → via T A (suc k) s k ≡ true → via T A k s k ≡ true
  via_to k s e =
      ⊎_elim (λ (q : via T A k s k ≡ true). q)
      (λ (q : (via T A k s k && via T A k k k) ≡ true). (and_parts (via T A k s k) (via T A k k k) q).0)
      (or_cases (via T A k s k) (via T A k s k && via T A k k k) (next_parts k s k e).2)

  via_of : (k t : ℕ) → via T A (suc k) k t ≡ true → via T A k k t ≡ true
  via_of k t e =
      ⊎_elim (λ (q : via T A k k t ≡ true). q)
      (λ (q : (via T A k k k && via T A k k t) ≡ true). (and_parts (via T A k k k) (via T A k k t) q).1)
      (or_cases (via T A k k t) (via T A k k k && via T A k k t) (next_parts k k t e).2)

  through : (k s t : ℕ) → via T A k s k ≡ true → via T A k k t ≡ true → via T A (suc k) s t ≡ true
  through k s t x y =
      next_from k s t (via_in k s k x).0 (via_in k k t y).1
      (or_right (via T A k s t) (via T A k s k && via T A k k t) (and_from (via T A k s k) (via T A k k t) x y))

  wider : (k s t : ℕ) → via T A k s t ≡ true → via T A (suc k) s t ≡ true
  wider k s t e =
      let x = via_in k s t e in next_from k s t x.0 x.1 (or_left (via T A k s t) (via T A k s k && via T A k k t) e)

  via_join : (k j s t : ℕ) → j < k → via T A k s j ≡ true → via T A k j t ≡ true → via T A k s t ≡ true
  via_join zero j s t l e f = absurd (let z : j < 0 = l in omega arith)
  via_join (suc k) j s t l e f =
      ⊎_elim
      (λ (q : j ≡ k).
      let e' : via T A (suc k) s k ≡ true = rw q at e in
      let f' : via T A (suc k) k t ≡ true = rw q at f in
      through k s t (via_to k s e') (via_of k t f'))
      (λ (q : j ≡ k → ⊥).
      let l' : j < k = omega arith in
      ⊎_elim
      (λ (e₁ : via T A k s j ≡ true).
      ⊎_elim
      (λ (f₁ : via T A k j t ≡ true). wider k s t (via_join k j s t l' e₁ f₁))
      (λ (f₂ : (via T A k j k && via T A k k t) ≡ true).
      let w = and_parts (via T A k j k) (via T A k k t) f₂ in
      through k s t (via_join k j s k l' e₁ w.0) w.1)
      (or_cases (via T A k j t) (via T A k j k && via T A k k t) (next_parts k j t f).2))
      (λ (e₂ : (via T A k s k && via T A k k j) ≡ true).
      let v = and_parts (via T A k s k) (via T A k k j) e₂ in
      ⊎_elim
      (λ (f₁ : via T A k j t ≡ true). through k s t v.0 (via_join k j k t l' v.1 f₁))
      (λ (f₂ : (via T A k j k && via T A k k t) ≡ true). through k s t v.0 (and_parts (via T A k j k) (via T A k k t) f₂).1)
      (or_cases (via T A k j t) (via T A k j k && via T A k k t) (next_parts k j t f).2))
      (or_cases (via T A k s j) (via T A k s k && via T A k k j) (next_parts k s j e).2))
      (cases_eq j k)

  pub reach_sound : (s t : ℕ) → reach T A s t ≡ true → Reaches T A s t
  unfolding reach
  reach_sound s t e = via_sound T.states s t e

  pub reach_in : (s t : ℕ) → reach T A s t ≡ true → (s < T.states) × (t < T.states)
  unfolding reach
  reach_in s t e = via_in T.states s t e

pub reach_all : {T : Table} {A : Choices} {s t : ℕ} → Lawful T → s < T.states → Reaches T A s t → reach T A s t ≡ true
unfolding reach
reach_all {T} {A} law h (stays {s = s}) =
    via_wider T A T.states s s (start_from T A s s h h (or_left (eqb s s) (leads T A s s) (eq-eqb s s refl)))
reach_all {T} {A} law h (steps {s = s} {t = t} c b p a l r) =
    let u = successor T s c b in
    via_join T A T.states u s t (within law p l)
    (via_wider T A T.states s u
    (start_from T A s u p.state (within law p l) (or_right (eqb s u) (leads T A s u) (leads_once T A s c b p a l))))
    (reach_all law (within law p l) r)

pub reach_iff : (T : Table) (A : Choices) (s t : ℕ) → Lawful T → s < T.states → (reach T A s t ≡ true) ↔ Reaches T A s t
reach_iff T A s t law h = (reach_sound T A s t, reach_all law h)
