-- The steps of a pass over flags, and that passes come to the inside choices.
use Rattle.std.proofs.Common.{◌≡◌, ℕ, suc, ◌+◌, ◌*◌, ◌<◌, ◌≤◌, Bool, true, false, not, ◌&&◌, ◌||◌, List, sym, refl, ap, ◌∙◌, ap₂, inl, inr, ⊎_elim, add-one, arith}
use Rattle.std.specs.Cmp.{both_ways as same_test}
use Rattle.std.proofs.lemmas.Bool.{cases_eq, both_ways}
use Rattle.table.specs.Sums.{sum_n}
use Rattle.table.specs.Table.{Table, successor}
use Rattle.table.specs.Limits.{Lawful}
use Rattle.components.specs.Below.{any, every}
use Rattle.components.specs.EndComponent.{Choices, Choice, ChoicesIncluded}
use Rattle.components.specs.Inside.{reach, pass, passes, inside}
use Rattle.components.proofs.Below.{grid_at}
use Rattle.components.proofs.Reach.{within, more, reach_sound, reach_all}
use Rattle.components.proofs.Reversible.{settled_inside}
use Rattle.decomposition.specs.Bits.{bit_at}
use Rattle.decomposition.specs.Flags.{flag_at, Flagged, AllSet}
use Rattle.decomposition.specs.Marking.{leads_back, Shows}
use Rattle.decomposition.specs.Dropping.{drops, DroppedChoice, DroppedState, DroppedAll, Passed}
use Rattle.decomposition.proofs.Marked.{any_more}
use Rattle.decomposition.proofs.Searches.{any_ext, every_ext}

-- nothing changed in two steps
still_both : {before then : Bool} {old mid new : List Bool} → (before ≡ false → mid ≡ old) → (then ≡ false → new ≡ mid)
    → (before || then) ≡ false → new ≡ old
still_both {before = true} f g e = absurd (both_ways true e refl)
still_both {before = false} f g e = g e ∙ f refl

pub state_more : {T : Table} {rows : List (List ℕ)} {s k : ℕ} {old mid new : List Bool} {before then : Bool}
    → DroppedState T rows s k old mid before → DroppedChoice T rows s k mid new then
    → DroppedState T rows s (k + 1) old new (before || then)
state_more {T} {rows} {s} {k} {old} {mid} {new} {before} d e = record {
  here = λ c h. ⊎_elim
      (λ (q : c ≡ k).
      rw q (e.here ∙ ap (λ (x : Bool). x && leads_back T rows s k) (d.other (16 * s + k) (inr (omega arith)))))
      (λ (q : c ≡ k → ⊥). e.other (16 * s + c) (λ z. q (omega arith)) ∙ d.here c (omega arith))
      (cases_eq c k);
  said =
      ap₂ (λ (x y : Bool). x || y) d.said
      (e.said ∙ ap (λ (x : Bool). x && not (leads_back T rows s k)) (d.other (16 * s + k) (inr (omega arith))))
      ∙ sym (any_more k (drops T rows old s));
  other = λ i h. ⊎_elim
      (λ (l : i < 16 * s). e.other i (λ z. omega arith) ∙ d.other i (inl l))
      (λ (l : 16 * s + (k + 1) ≤ i). e.other i (λ z. omega arith) ∙ d.other i (inr (omega arith))) h;
  still = still_both {before = before} d.still e.still;
}

pub all_more : {T : Table} {rows : List (List ℕ)} {k : ℕ} {old mid new : List Bool} {before then : Bool} → Lawful T → k < T.states
    → DroppedAll T rows k old mid before → DroppedState T rows k (T.choices k) mid new then
    → DroppedAll T rows (k + 1) old new (before || then)
all_more {T} {rows} {k} {old} {mid} {new} {before} law hk d e = record {
  here = λ s c h l. ⊎_elim
      (λ (q : s ≡ k).
      let l' : c < T.choices k = rw q at l in
      rw q (e.here c l' ∙ ap (λ (x : Bool). x && leads_back T rows k c) (d.other (16 * k + c) (omega arith))))
      (λ (q : s ≡ k → ⊥).
      let few = (law.choices s (omega arith)).1 in
      e.other (16 * s + c) (inl (omega arith)) ∙ d.here s c (omega arith) l)
      (cases_eq s k);
  said =
      ap₂ (λ (x y : Bool). x || y) d.said
      (e.said
      ∙ any_ext (T.choices k) (drops T rows mid k) (drops T rows old k)
      (λ c l. ap (λ (x : Bool). x && not (leads_back T rows k c)) (d.other (16 * k + c) (omega arith))))
      ∙ sym (any_more k (λ t. any (T.choices t) (drops T rows old t)));
  other = λ i h.
      let few = (law.choices k hk).1 in
      e.other i (inr (omega arith)) ∙ d.other i (omega arith);
  still = still_both {before = before} d.still e.still;
}

-- what is dropped is what is in one set and not in the other
gone : (x y : Bool) → (x && not y) ≡ (x && not (x && y))
gone true y = refl
gone false y = refl

-- a pass by marks is a pass
pub passed : (T : Table) → Lawful T → (rows : List (List ℕ)) (old new : List Bool) (changed : Bool)
    → Shows T.states rows (reach T (flag_at old)) → DroppedAll T rows T.states old new changed → Passed T old new changed
unfolding pass
passed T law rows old new changed w d = record {
  kept = λ s c p.
      d.here s c p.state p.choice
      ∙ ap (λ (x : Bool). flag_at old s c && x)
      (every_ext (T.branches s c) (λ b. bit_at rows (successor T s c b) s) (λ b. reach T (flag_at old) (successor T s c b) s)
      (λ b h. w (successor T s c b) s (within law p h) p.state))
      ∙ sym (grid_at T.states T.choices (λ x y. flag_at old x y && every (T.branches x y) (λ b. reach T (flag_at old) (successor T x y b) x))
      s c p.state p.choice);
  said =
      d.said
      ∙ any_ext T.states (λ s. any (T.choices s) (drops T rows old s)) (λ s. any (T.choices s) (λ c. flag_at old s c && not (flag_at new s c)))
      (λ s h.
      any_ext (T.choices s) (drops T rows old s) (λ c. flag_at old s c && not (flag_at new s c))
      (λ c l.
      gone (flag_at old s c) (leads_back T rows s c)
      ∙ ap (λ (x : Bool). flag_at old s c && not x) (sym (d.here s c h l))));
  still = d.still;
}

-- Passes over flags are the passes of the definition

module _ (T : Table) (law : Lawful T) where
  -- what is reached, and a pass, depend on the table's choices alone
  pub reach_same : (A B : Choices) → ((s c : ℕ) → Choice T s c → A s c ≡ B s c) → (x y : ℕ) → x < T.states → reach T A x y ≡ reach T B x y
  reach_same A B e x y h =
      same_test (reach T A x y) (reach T B x y)
      (λ a. reach_all law h (more to (reach_sound T A x y a)))
      (λ a. reach_all law h (more from (reach_sound T B x y a)))
    where
      to : ChoicesIncluded T A B
      to s c q a = sym (e s c q) ∙ a

      from : ChoicesIncluded T B A
      from s c q a = e s c q ∙ a

  pass_same : (A B : Choices) → ((s c : ℕ) → Choice T s c → A s c ≡ B s c) → (s c : ℕ) → Choice T s c → pass T A s c ≡ pass T B s c
  unfolding pass
  pass_same A B e s c p =
      grid_at T.states T.choices (λ x y. A x y && every (T.branches x y) (λ b. reach T A (successor T x y b) x)) s c p.state p.choice
      ∙ ap₂ (λ (x y : Bool). x && y) (e s c p)
      (every_ext (T.branches s c) (λ b. reach T A (successor T s c b) s) (λ b. reach T B (successor T s c b) s)
      (λ b h. reach_same A B e (successor T s c b) s (within law p h)))
      ∙ sym (grid_at T.states T.choices (λ x y. B x y && every (T.branches x y) (λ b. reach T B (successor T x y b) x)) s c p.state p.choice)

  pub turn_none : (flags : List Bool) → AllSet T flags → Flagged T flags (passes T 0)
  unfolding passes
  turn_none flags h s c p = h s c p ∙ sym (grid_at T.states T.choices (λ x y. true) s c p.state p.choice)

  next : (old new : List Bool) (changed : Bool) (k : ℕ) → Flagged T old (passes T k) → Passed T old new changed
      → Flagged T new (passes T (suc k))
  unfolding passes
  next old new changed k f d s c p = d.kept s c p ∙ pass_same (flag_at old) (passes T k) f s c p

  pub turn_more : (old new : List Bool) (changed : Bool) (k : ℕ) → Flagged T old (passes T k) → Passed T old new changed
      → Flagged T new (passes T (k + 1))
  turn_more old new changed k f d = rw add-one (next old new changed k f d)

  -- a pass that drops nothing is the last
  pub turn_last : (old new : List Bool) (changed : Bool) (k : ℕ) → Flagged T old (passes T k) → Passed T old new changed → changed ≡ false
      → Flagged T new (inside T)
  turn_last old new changed k f d e s c p =
      ap (λ (xs : List Bool). flag_at xs s c) (d.still e)
      ∙ f s c p
      ∙ settled_inside T law k
      (λ x y q a.
      sym (next old new changed k f d x y q)
      ∙ ap (λ (xs : List Bool). flag_at xs x y) (d.still e) ∙ f x y q ∙ a) s c p

  pub turn_all : (flags : List Bool) → Flagged T flags (passes T (sum_n T.states T.choices)) → Flagged T flags (inside T)
  unfolding inside
  turn_all flags f = f
