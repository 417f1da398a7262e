-- The greatest reversible set of choices: from each successor of a choice of it, its state is reached again by it.
use Rattle.std.proofs.Common.{◌≡◌, ℕ, zero, suc, ◌<◌, ◌≤◌, true, false, ◌&&◌, ◌⊎◌, ◌↔◌, sym, refl, ◌∙◌, subst, inl, inr, ⊎_elim, arith}
use Rattle.std.proofs.lemmas.Bool.{and_parts, and_from, cases_lt, cases_Bool, both_ways}
use Rattle.table.specs.Sums.{sum_n}
use Rattle.table.specs.Table.{Table, successor}
use Rattle.table.specs.Limits.{Lawful}
use Rattle.components.specs.Below.{every, count}
use Rattle.components.specs.EndComponent.{Choices, Choice, Reaches, stays, steps, ChoicesIncluded}
use Rattle.components.specs.Inside.{reach, pass, passes, inside}
use Rattle.components.proofs.Below.{every_at, every_from, sum_le, sum_lt, count_le, count_lt, count_most, grid_true, grid_from}
use Rattle.components.proofs.Settles.{settles}
use Rattle.components.proofs.Reach.{within, trans, more, reach_sound, reach_all}

abbrev pub Reversible : Table → Choices → Type 0
Reversible T A = (s c b : ℕ) → Choice T s c → A s c ≡ true → b < T.branches s c → Reaches T A (successor T s c b) s

-- each reversible set is within A
abbrev pub Bounds : Table → Choices → Type 0
Bounds T A = (X : Choices) → Reversible T X → ChoicesIncluded T X A

pub record Greatest (T : Table) (A : Choices) : Type 0 where
  pub reversible : Reversible T A
  pub greatest : Bounds T A

-- s has a choice in A
pub record Acts (T : Table) (A : Choices) (s : ℕ) : Type 0 where
  pub choice : ℕ
  pub of : Choice T s choice
  pub chosen : A s choice ≡ true

-- s is t, or has a choice in A
pub moves : {T : Table} {A : Choices} {s t : ℕ} → Reaches T A s t → (s ≡ t) ⊎ Acts T A s
moves stays = inl refl
moves (steps c b p a h r) = inr (record { choice = c; of = p; chosen = a })

-- what reaches a state with a choice in A has one too
pub acts_before : {T : Table} {A : Choices} {s t : ℕ} → Acts T A t → Reaches T A s t → Acts T A s
acts_before {T} {A} a r = ⊎_elim (λ (e : _). subst (Acts T A) (sym e) a) (λ (b : Acts T A _). b) (moves r)

pub acts_more : {T : Table} {A B : Choices} {s : ℕ} → ChoicesIncluded T A B → Acts T A s → Acts T B s
acts_more {s = s} w a = record { choice = a.choice; of = a.of; chosen = w s a.choice a.of a.chosen }

-- by a reversible set each way can be gone back
pub back : {T : Table} {A : Choices} {s t : ℕ} → Reversible T A → Reaches T A s t → Reaches T A t s
back v stays = stays
back v (steps {s = s} c b p a h r) = trans (back v r) (v s c b p a h)

-- Passes

-- B is what one pass leaves of A: the choices whose every successor reaches their state by A
abbrev pub Keeps : Table → Choices → Choices → Type 0
Keeps T A B =
    (s c : ℕ) → Choice T s c
    → (B s c ≡ true)
    ↔ ((A s c ≡ true) × ((b : ℕ) → b < T.branches s c → Reaches T A (successor T s c b) s))

pub all_bound : {T : Table} (A : Choices) → ((s c : ℕ) → Choice T s c → A s c ≡ true) → Bounds T A
all_bound A h X v s c p a = h s c p

pub pass_bound : {T : Table} {A B : Choices} → Keeps T A B → Bounds T A → Bounds T B
pass_bound k w X v s c p a = (k s c p).1 (w X v s c p a, λ b h. more (w X v) (v s c b p a h))

pub settled_greatest : {T : Table} {A B : Choices} → Keeps T A B → Bounds T A → ChoicesIncluded T A B → Greatest T A
settled_greatest k g w = record {
  reversible = λ s c b p a h. ((k s c p).0 (w s c p a)).1 b h;
  greatest = g;
}

-- two greatest sets have the same choices
pub greatest_same : {T : Table} {A B : Choices} → Greatest T A → Greatest T B → ChoicesIncluded T A B
greatest_same {A = A} g h = h.greatest A g.reversible

-- how many choices of the table a set has
pub chosen : Table → Choices → ℕ
chosen T A = sum_n T.states (λ s. count (T.choices s) (A s))

chosen_lt : (T : Table) (A B : Choices) → ChoicesIncluded T A B → (s c : ℕ) → Choice T s c → A s c ≡ false → B s c ≡ true
    → chosen T A < chosen T B
unfolding chosen
chosen_lt T A B w s c p e f =
    sum_lt T.states (λ i. count (T.choices i) (A i)) (λ i. count (T.choices i) (B i))
    (λ i h. count_le (T.choices i) (A i) (B i) (λ d k. w i d (record { state = h; choice = k })))
    s p.state
    (count_lt (T.choices s) (A s) (B s) (λ d k. w s d (record { state = p.state; choice = k })) c p.choice e f)

chosen_most : (T : Table) (A : Choices) → chosen T A ≤ sum_n T.states T.choices
unfolding chosen
chosen_most T A = sum_le T.states (λ s. count (T.choices s) (A s)) T.choices (λ s h. count_most (T.choices s) (A s))

pub pass_keeps : (T : Table) → Lawful T → (A : Choices) → Keeps T A (pass T A)
unfolding pass
pass_keeps T law A s c p = (
  (λ e.
      let x = grid_true T.states T.choices (λ t d. A t d && every (T.branches t d) (λ b. reach T A (successor T t d b) t)) s c e in
      let w = and_parts (A s c) (every (T.branches s c) (λ b. reach T A (successor T s c b) s)) x.2 in (
        w.0,
        λ b h. reach_sound T A (successor T s c b) s
            (every_at (T.branches s c) (λ d. reach T A (successor T s c d) s) w.1 b h),
      )),
  (λ x.
      grid_from T.states T.choices (λ t d. A t d && every (T.branches t d) (λ b. reach T A (successor T t d b) t)) s c
      p.state p.choice
      (and_from (A s c) (every (T.branches s c) (λ b. reach T A (successor T s c b) s)) x.0
      (every_from (T.branches s c) (λ b. reach T A (successor T s c b) s) (λ b h. reach_all law (within law p h) (x.1 b h))))),
)

pub pass_in : (T : Table) (A : Choices) (s c : ℕ) → pass T A s c ≡ true → Choice T s c
unfolding pass
pass_in T A s c e =
    let x = grid_true T.states T.choices (λ t d. A t d && every (T.branches t d) (λ b. reach T A (successor T t d b) t)) s c e in
    record { state = x.0; choice = x.1 }

pub passes_in : (T : Table) (k s c : ℕ) → passes T k s c ≡ true → Choice T s c
unfolding passes
passes_in T zero s c e =
    let x = grid_true T.states T.choices (λ t d. true) s c e in record { state = x.0; choice = x.1 }
passes_in T (suc k) s c e = pass_in T (passes T k) s c e

-- no choice is inside that the table does not have
pub inside_exists : (T : Table) (s c : ℕ) → inside T s c ≡ true → Choice T s c
unfolding inside
inside_exists T s c e = passes_in T (sum_n T.states T.choices) s c e

module _ (T : Table) (law : Lawful T) where
  keeps : (k : ℕ) → Keeps T (passes T k) (passes T (suc k))
  unfolding passes
  keeps k = pass_keeps T law (passes T k)

  Settled : ℕ → Type 0
  Settled k = ChoicesIncluded T (passes T k) (passes T (suc k))

  turn : (k : ℕ) → Settled k ⊎ (chosen T (passes T (suc k)) < chosen T (passes T k))
  unfolding Settled
  turn k =
      ⊎_elim inr
      (λ (g : chosen T (passes T k) ≤ chosen T (passes T (suc k))).
      inl (λ s c p a.
      ⊎_elim (λ (e : passes T (suc k) s c ≡ true). e)
      (λ (e : passes T (suc k) s c ≡ false).
      let l = chosen_lt T (passes T (suc k)) (passes T k) (λ x d q m. ((keeps k x d q).0 m).0) s c p e a in
      absurd (omega arith))
      (cases_Bool (passes T (suc k) s c))))
      (cases_lt (chosen T (passes T (suc k))) (chosen T (passes T k)))

  still : (k : ℕ) → Settled k → Settled (suc k)
  unfolding Settled
  still k w s c p a = (keeps (suc k) s c p).1 (a, λ b h. more w (((keeps k s c p).0 a).1 b h))

  bound : (k : ℕ) → Bounds T (passes T k)
  unfolding passes
  bound zero = all_bound (passes T 0) (λ s c p. grid_from T.states T.choices (λ t d. true) s c p.state p.choice refl)
  bound (suc k) = pass_bound (keeps k) (bound k)

  -- the inside choices are the greatest reversible set
  pub inside_greatest : Greatest T (inside T)
  unfolding Settled inside
  inside_greatest =
      let n = sum_n T.states T.choices in
      settled_greatest (keeps n) (bound n)
      (settles (λ k. chosen T (passes T k)) Settled turn still n (chosen_most T (passes T 0)))

  -- a set that a pass does not change is that of the inside choices
  pub settled_inside : (k : ℕ) → ChoicesIncluded T (passes T k) (passes T (suc k)) → (s c : ℕ) → Choice T s c → passes T k s c ≡ inside T s c
  settled_inside k w s c p =
      let g = settled_greatest (keeps k) (bound k) w in
      ⊎_elim
      (λ (e : inside T s c ≡ true). greatest_same inside_greatest g s c p e ∙ sym e)
      (λ (e : inside T s c ≡ false).
      ⊎_elim
      (λ (f : passes T k s c ≡ true). absurd (both_ways (inside T s c) e (greatest_same g inside_greatest s c p f)))
      (λ (f : passes T k s c ≡ false). f ∙ sym e)
      (cases_Bool (passes T k s c)))
      (cases_Bool (inside T s c))
