-- Where a call is refused: the reason, from what standing answers.
use Rattle.std.proofs.Common.{◌≡◌, ℕ, ◌<◌, ◌≤◌, true, false, List, length, Some, None, Option, sym, refl, ap, ◌∙◌, arith}
use Rattle.table.specs.Table.{Table}
use Rattle.table.specs.declared.fault.Fault.{Fault}
use Rattle.components.specs.Nodes.{components}
use Rattle.rules.specs.Book.{Book}
use Rattle.book.specs.declared.desk.Desk.{Desk}
use Rattle.history.specs.Calls.{State, idle, loaded, Call, standing, refines, sweeping, quote, plan, count_within, next}
use Rattle.history.specs.Answers.{refused, stands, unopened, answer_loaded, answer_idle, answer}
use Rattle.history.specs.Refusing.{NeedsTable}
use Rattle.history.specs.declared.refusal.Refusal.{Refusal}
use Rattle.history.specs.declared.refusal.Refusal.TheVariants as refusal
use Rattle.history.proofs.Refusing.{unchanged, needs_table_refused, component_refused, steps_refused, sweeps_refused, state_refused, room_refused}
use Rattle.engine.specs.States.{held_state}

-- a call is refused and changes nothing
pub record Refuses (S : State) (c : Call) (e : Refusal) : Type 0 where
  pub answer : refused e ≡ answer S c
  pub holds : S ≡ next S c

pub refuses : (S : State) (c : Call) (e : Refusal) → answer S c ≡ refused e → Refuses S c e
refuses S c e a = record { answer = sym a; holds = sym (unchanged S c e a) }

-- an idle engine's standing
pub idle_standing : (S : State) (e : Fault) → S ≡ idle e → unopened e ≡ answer S standing
unfolding answer answer_idle
idle_standing S e h = ap (λ (R : State). answer R standing) (sym h)

-- idle: what needs a table
pub idle_refuses : (S : State) (e : Fault) → unopened e ≡ answer S standing → (c : Call) → NeedsTable c → Refuses S c refusal.Idle
unfolding answer answer_loaded
idle_refuses (idle d) e h c n = refuses (idle d) c refusal.Idle (needs_table_refused d c n)
idle_refuses (loaded T B) e h c n = let z : ◌≡◌ {A = ℕ} 0 1 = cc in absurd (omega arith)

module _ (n k : ℕ) where
  -- the numbers that standing answers are those of the table
  idle_stands : {P : Type 0} (d : Fault) → stands n k ≡ unopened d → P
  idle_stands d h = let z : ◌≡◌ {A = ℕ} 0 1 = cc in absurd (omega arith)

  pub component_refuses : (S : State) → stands n k ≡ answer S standing → (i m width : ℕ) → k ≤ i → Refuses S (refines i m width) refusal.Component
  unfolding answer answer_loaded answer_idle
  component_refuses (idle d) h i m width l = idle_stands d h
  component_refuses (loaded T B) h i m width l =
      let e : k ≡ components T = cc in
      let p : components T ≤ i = omega (arith, e, l) in
      refuses (loaded T B) (refines i m width) refusal.Component (component_refused T B i m width p)

  pub steps_refuses : (S : State) → stands n k ≡ answer S standing → (i m width : ℕ) → i < k → count_within m ≡ false → Refuses S (refines i m width) refusal.Count
  unfolding answer answer_loaded answer_idle
  steps_refuses (idle d) h i m width l e = idle_stands d h
  steps_refuses (loaded T B) h i m width l e =
      let f : k ≡ components T = cc in
      let p : i < components T = omega (arith, f, l) in
      refuses (loaded T B) (refines i m width) refusal.Count (steps_refused T B i m width p e)

  pub sweeps_refuses : (S : State) → stands n k ≡ answer S standing → (m : ℕ) → count_within m ≡ false → Refuses S (sweeping m) refusal.Count
  unfolding answer answer_loaded answer_idle
  sweeps_refuses (idle d) h m e = idle_stands d h
  sweeps_refuses (loaded T B) h m e = refuses (loaded T B) (sweeping m) refusal.Count (sweeps_refused T B m e)

  pub state_refuses : (S : State) → stands n k ≡ answer S standing → (s width : ℕ) → n ≤ s → Refuses S (quote s width) refusal.State
  unfolding answer answer_loaded answer_idle
  state_refuses (idle d) h s width l = idle_stands d h
  state_refuses (loaded T B) h s width l =
      let e : n ≡ T.states = cc in
      let p : T.states ≤ s = omega (arith, e, l) in
      refuses (loaded T B) (quote s width) refusal.State (state_refused T B s width p)

  pub room_refuses : (S : State) → stands n k ≡ answer S standing → (list : List ℕ) → length list < n → Refuses S (plan list) refusal.Room
  unfolding answer answer_loaded answer_idle
  room_refuses (idle d) h list l = idle_stands d h
  room_refuses (loaded T B) h list l =
      let e : n ≡ T.states = cc in
      let p : length list < T.states = omega (arith, e, l) in
      refuses (loaded T B) (plan list) refusal.Room (room_refused T B list p)

  -- an engine that stands is not idle
  pub stands_open : (o : Option Fault) (d : Desk) → stands n k ≡ answer (held_state o d) standing → o ≡ None
  unfolding answer answer_idle
  stands_open (Some e) d h = idle_stands e h
  stands_open None d h = refl

  pub components_stand : (S : State) (T : Table) (B : Book) → stands n k ≡ answer S standing → S ≡ loaded T B → k ≡ components T
  unfolding answer answer_loaded
  components_stand S T B h e = let z : stands n k ≡ stands T.states (components T) = h ∙ ap (λ (R : State). answer R standing) e in cc

  pub states_stand : (S : State) (T : Table) (B : Book) → stands n k ≡ answer S standing → S ≡ loaded T B → n ≡ T.states
  unfolding answer answer_loaded
  states_stand S T B h e = let z : stands n k ≡ stands T.states (components T) = h ∙ ap (λ (R : State). answer R standing) e in cc
