-- When a call is refused, what a refusal leaves, and what an accepted load forgets.
use Rattle.std.proofs.Common.{◌≡◌, ℕ, ◌<◌, ◌≤◌, Bool, true, false, cond, ◌&&◌, ltb, leb, ◌⊎◌, List, [], ◌∷◌, ◌++◌, length, Some, None, Option, sym, refl, ap, ◌∙◌, subst, inl, inr, arith}
use Rattle.std.proofs.lemmas.Bool.{and_cases, and_left, and_parts, and_right, cases_Bool, cond-true, cond-false, le-ltb, leb-false, lt-leb, lt-ltb, ltb-false, ltb-true}
use Rattle.table.specs.Table.{Table}
use Rattle.table.specs.Walk.{fault_of}
use Rattle.table.specs.Faults.{Limit, notice_of}
use Rattle.table.specs.declared.fault.Fault.{Fault}
use Rattle.table.specs.declared.fault.Fault.TheVariants.{States, Denominator, Choices, Reward, Branches, Successor, Weight, Repeated, Sum}
use Rattle.table.specs.declared.fault.Notice.{Notice}
use Rattle.table.proofs.WalkLaw.{walk_law}
use Rattle.components.specs.Nodes.{components}
use Rattle.rules.specs.Book.{Book}
use Rattle.rules.specs.Setting.{setting_of}
use Rattle.rules.specs.Refine.{refine}
use Rattle.rules.specs.Sweep.{sweeps}
use Rattle.history.specs.Calls.{State, idle, loaded, Call, load, standing, refines, sweeping, close, quote, plan, count_within, fresh, opened, after_load, after_call, after_idle, next, run}
use Rattle.history.specs.Answers.{refused, done, stands, unopened, swept, load_answer, refine_answer, quote_answer, plan_answer, answer_loaded, answer_idle, answer, answers}
use Rattle.history.specs.Refusals.{refusal_notice}
use Rattle.history.specs.Refusing.{Breaks, NeedsTable, Miscounted, Reason, broken, needed, no_component, bad_steps, bad_sweeps, no_state, no_room, RefusedWith, AsOpened, RefusalLaw}
use Rattle.history.specs.Refusing as limits
use Rattle.history.specs.declared.refusal.Refusal.{Refusal}
use Rattle.history.specs.declared.refusal.Refusal.TheVariants as refusal

pub found_or_none : (o : Option Fault) → (o ≡ None) ⊎ ((e : Fault) × (o ≡ Some e))
found_or_none None = inl refl
found_or_none (Some e) = inr (e, refl)

-- two answers of different kinds
never : {P : Type 0} (e : Refusal) → done ≡ refused e → P
never e h = let z : ◌≡◌ {A = ℕ} 0 1 = cc in absurd (omega arith)

same : (d e : Refusal) → refused d ≡ refused e → d ≡ e
same d e h = cc

-- a reason for d is one for e
moved : {S : State} {c : Call} (d e : Refusal) → Reason S c (refusal_notice d) → refused d ≡ refused e → Reason S c (refusal_notice e)
moved {S} {c} d e r h = subst (λ (x : Refusal). Reason S c (refusal_notice x)) (same d e h) r

-- a count that is tested
pub miscounted : (n : ℕ) → count_within n ≡ false → Miscounted n
miscounted n h =
    elim (and_cases (leb 1 n) (leb n 1000) h) [ inl e ↦ inl (leb-false 1 n e) | inr e ↦ inr (leb-false n 1000 e) ]

pub not_within : (n : ℕ) → Miscounted n → count_within n ≡ false
not_within n h =
    elim h [
      | inl l ↦ and_left (leb 1 n) (leb n 1000) (lt-leb 1 n l)
      | inr l ↦ and_right (leb 1 n) (leb n 1000) (lt-leb n 1000 l)
    ]

-- Loads

module _ (T : Table) where
  pub answer_broken : (e : Fault) → fault_of T ≡ Some e → load_answer T ≡ refused (refusal.Table e)
  unfolding load_answer
  answer_broken e h = ap (λ (o : Option Fault). elim o [ Some d ↦ refused (refusal.Table d) | None ↦ done ]) h

  pub answer_kept : fault_of T ≡ None → load_answer T ≡ done
  unfolding load_answer
  answer_kept h = ap (λ (o : Option Fault). elim o [ Some d ↦ refused (refusal.Table d) | None ↦ done ]) h

  pub after_broken : (e : Fault) (S : State) → fault_of T ≡ Some e → after_load T S ≡ S
  unfolding after_load
  after_broken e S h = ap (λ (o : Option Fault). elim o as (λ _. State) [ Some d ↦ S | None ↦ fresh T ]) h

  pub after_kept : (S : State) → fault_of T ≡ None → after_load T S ≡ fresh T
  unfolding after_load
  after_kept S h = ap (λ (o : Option Fault). elim o as (λ _. State) [ Some d ↦ S | None ↦ fresh T ]) h

load_reason : (S : State) (T : Table) (e : Refusal) → load_answer T ≡ refused e → Reason S (load T) (refusal_notice e)
load_reason S T e h =
    elim (found_or_none (fault_of T)) [
      | inl k ↦ never e (sym (answer_kept T k) ∙ h)
      | inr w ↦ moved (refusal.Table w.0) e (broken w.1) (sym (answer_broken T w.0 w.1) ∙ h)
    ]

load_unchanged : (S : State) (T : Table) (e : Refusal) → load_answer T ≡ refused e → after_load T S ≡ S
load_unchanged S T e h =
    elim (found_or_none (fault_of T)) [
      | inl k ↦ never e (sym (answer_kept T k) ∙ h)
      | inr w ↦ after_broken T w.0 S w.1
    ]

-- Calls of a loaded engine

module _ (T : Table) (B : Book) where
  refine_accepted : {P : Type 0} (k n width : ℕ) (e : Refusal) → refine_answer T B k n width ≡ refused e → P
  unfolding refine_answer
  refine_accepted k n width e h = let z : ◌≡◌ {A = ℕ} 0 1 = cc in absurd (omega arith)

  sweep_accepted : {P : Type 0} (n : ℕ) (e : Refusal) → swept n ≡ refused e → P
  sweep_accepted n e h = let z : ◌≡◌ {A = ℕ} 0 1 = cc in absurd (omega arith)

  quote_accepted : {P : Type 0} (s width : ℕ) (e : Refusal) → quote_answer T B s width ≡ refused e → P
  unfolding quote_answer
  quote_accepted s width e h = let z : ◌≡◌ {A = ℕ} 0 1 = cc in absurd (omega arith)

  plan_accepted : {P : Type 0} (list : List ℕ) (e : Refusal) → plan_answer T B list ≡ refused e → P
  unfolding plan_answer
  plan_accepted list e h = let z : ◌≡◌ {A = ℕ} 0 1 = cc in absurd (omega arith)

  stands_accepted : {P : Type 0} (n k : ℕ) (e : Refusal) → stands n k ≡ refused e → P
  stands_accepted n k e h = let z : ◌≡◌ {A = ℕ} 0 1 = cc in absurd (omega arith)

  loaded_reason : (c : Call) (e : Refusal) → answer_loaded T B c ≡ refused e → Reason (loaded T B) c (refusal_notice e)
  unfolding answer_loaded
  loaded_reason (load T') e h = load_reason (loaded T B) T' e h
  loaded_reason standing e h = stands_accepted T.states (components T) e h
  loaded_reason (refines k n width) e h =
      let inner = cond (count_within n) (refine_answer T B k n width) (refused refusal.Count) in
      elim (cases_Bool (ltb k (components T))) [
        | inl a ↦ (
            let h1 : inner ≡ refused e = sym (cond-true (ltb k (components T)) inner (refused refusal.Component) a) ∙ h in
            elim (cases_Bool (count_within n)) [
              | inl b ↦ refine_accepted k n width e (sym (cond-true (count_within n) (refine_answer T B k n width) (refused refusal.Count) b) ∙ h1)
              | inr b ↦ moved refusal.Count e (bad_steps (ltb-true k (components T) a) (miscounted n b))
                  (sym (cond-false (count_within n) (refine_answer T B k n width) (refused refusal.Count) b) ∙ h1)
            ])
        | inr a ↦ moved refusal.Component e (no_component (ltb-false k (components T) a))
            (sym (cond-false (ltb k (components T)) inner (refused refusal.Component) a) ∙ h)
      ]
  loaded_reason (sweeping n) e h =
      let made = swept (sweeps (setting_of T) n B).made in
      elim (cases_Bool (count_within n)) [
        | inl b ↦ sweep_accepted (sweeps (setting_of T) n B).made e (sym (cond-true (count_within n) made (refused refusal.Count) b) ∙ h)
        | inr b ↦ moved refusal.Count e (bad_sweeps (miscounted n b)) (sym (cond-false (count_within n) made (refused refusal.Count) b) ∙ h)
      ]
  loaded_reason close e h = never e h
  loaded_reason (quote s width) e h =
      elim (cases_Bool (ltb s T.states)) [
        | inl a ↦ quote_accepted s width e (sym (cond-true (ltb s T.states) (quote_answer T B s width) (refused refusal.State) a) ∙ h)
        | inr a ↦ moved refusal.State e (no_state (ltb-false s T.states a))
            (sym (cond-false (ltb s T.states) (quote_answer T B s width) (refused refusal.State) a) ∙ h)
      ]
  loaded_reason (plan list) e h =
      elim (cases_Bool (leb T.states (length list))) [
        | inl a ↦ plan_accepted list e (sym (cond-true (leb T.states (length list)) (plan_answer T B list) (refused refusal.Room) a) ∙ h)
        | inr a ↦ moved refusal.Room e (no_room (leb-false T.states (length list) a))
            (sym (cond-false (leb T.states (length list)) (plan_answer T B list) (refused refusal.Room) a) ∙ h)
      ]

idle_reason : (d : Fault) (c : Call) (e : Refusal) → answer_idle d c ≡ refused e → Reason (idle d) c (refusal_notice e)
unfolding answer_idle
idle_reason d (load T) e h = load_reason (idle d) T e h
idle_reason d standing e h = let z : ◌≡◌ {A = ℕ} 0 1 = cc in absurd (omega arith)
idle_reason d (refines k n width) e h = moved refusal.Idle e (needed tt) h
idle_reason d (sweeping n) e h = moved refusal.Idle e (needed tt) h
idle_reason d close e h = moved refusal.Idle e (needed tt) h
idle_reason d (quote s width) e h = moved refusal.Idle e (needed tt) h
idle_reason d (plan list) e h = moved refusal.Idle e (needed tt) h

has_reason : (S : State) (c : Call) (e : Refusal) → answer S c ≡ refused e → Reason S c (refusal_notice e)
unfolding answer
has_reason (idle d) c e h = idle_reason d c e h
has_reason (loaded T B) c e h = loaded_reason T B c e h

-- What a reason gives

pub load-answer : (S : State) (T : Table) → answer S (load T) ≡ load_answer T
unfolding answer answer_idle answer_loaded
load-answer (idle d) T = refl
load-answer (loaded T' B) T = refl

pub needs_table_refused : (d : Fault) (c : Call) → NeedsTable c → answer (idle d) c ≡ refused refusal.Idle
unfolding answer answer_idle
needs_table_refused d (load T) n = absurd n
needs_table_refused d standing n = absurd n
needs_table_refused d (refines k m width) n = refl
needs_table_refused d (sweeping m) n = refl
needs_table_refused d close n = refl
needs_table_refused d (quote s width) n = refl
needs_table_refused d (plan list) n = refl

module _ (T : Table) (B : Book) where
  pub component_refused : (k n width : ℕ) → components T ≤ k → answer (loaded T B) (refines k n width) ≡ refused refusal.Component
  unfolding answer answer_loaded
  component_refused k n width h =
      cond-false (ltb k (components T)) (cond (count_within n) (refine_answer T B k n width) (refused refusal.Count)) (refused refusal.Component) (le-ltb k (components T) h)

  pub state_refused : (s width : ℕ) → T.states ≤ s → answer (loaded T B) (quote s width) ≡ refused refusal.State
  unfolding answer answer_loaded
  state_refused s width h = cond-false (ltb s T.states) (quote_answer T B s width) (refused refusal.State) (le-ltb s T.states h)

  pub steps_refused : (k n width : ℕ) → k < components T → count_within n ≡ false → answer (loaded T B) (refines k n width) ≡ refused refusal.Count
  unfolding answer answer_loaded
  steps_refused k n width l h =
      cond-true (ltb k (components T)) (cond (count_within n) (refine_answer T B k n width) (refused refusal.Count)) (refused refusal.Component) (lt-ltb k (components T) l)
      ∙ cond-false (count_within n) (refine_answer T B k n width) (refused refusal.Count) h

  pub sweeps_refused : (n : ℕ) → count_within n ≡ false → answer (loaded T B) (sweeping n) ≡ refused refusal.Count
  unfolding answer answer_loaded
  sweeps_refused n h = cond-false (count_within n) (swept (sweeps (setting_of T) n B).made) (refused refusal.Count) h

  pub room_refused : (list : List ℕ) → length list < T.states → answer (loaded T B) (plan list) ≡ refused refusal.Room
  unfolding answer answer_loaded
  room_refused list h = cond-false (leb T.states (length list)) (plan_answer T B list) (refused refusal.Room) (lt-leb T.states (length list) h)

refused_by : (S : State) (c : Call) (n : Notice) → Reason S c n → RefusedWith S c n
unfolding answer
refused_by S c n (broken {T} {e} h) = record { refusal = refusal.Table e; answers = load-answer S T ∙ answer_broken T e h; numbered = refl }
refused_by (idle d) c n (needed h) = record { refusal = refusal.Idle; answers = needs_table_refused d c h; numbered = refl }
refused_by S c n (no_component {T} {B} {k} {n = steps} {width} h) = record { refusal = refusal.Component; answers = component_refused T B k steps width h; numbered = refl }
refused_by S c n (no_state {T} {B} {s} {width} h) = record { refusal = refusal.State; answers = state_refused T B s width h; numbered = refl }
refused_by S c n (bad_steps {T} {B} {k} {n = steps} {width} l h) = record {
  refusal = refusal.Count;
  answers = steps_refused T B k steps width l (not_within steps h);
  numbered = refl;
}
refused_by S c n (bad_sweeps {T} {B} {n = count} h) = record { refusal = refusal.Count; answers = sweeps_refused T B count (not_within count h); numbered = refl }
refused_by S c n (no_room {T} {B} {list} h) = record { refusal = refusal.Room; answers = room_refused T B list h; numbered = refl }

-- The number of a fault

breaks_of : (T : Table) (e : Fault) → (Limit T e → ⊥) → Breaks T (notice_of e)
breaks_of T States h = limits.states h
breaks_of T Denominator h = limits.denominator h
breaks_of T (Choices s) h = limits.choices s h
breaks_of T (Reward s c) h = limits.reward s c h
breaks_of T (Branches s c) h = limits.branches s c h
breaks_of T (Successor s c b) h = limits.successor s c b h
breaks_of T (Weight s c b) h = limits.weight s c b h
breaks_of T (Repeated s c b) h = limits.repeated s c b h
breaks_of T (Sum s c) h = limits.sum s c h

-- A refusal changes nothing

loaded_unchanged : (T : Table) (B : Book) (c : Call) (e : Refusal) → answer_loaded T B c ≡ refused e → after_call T B c ≡ loaded T B
unfolding answer_loaded after_call
loaded_unchanged T B (load T') e h = load_unchanged (loaded T B) T' e h
loaded_unchanged T B standing e h = refl
loaded_unchanged T B (refines k n width) e h =
    let both = ltb k (components T) && count_within n in
    let next_one = loaded T (refine (setting_of T) k n width B).book in
    let inner = cond (count_within n) (refine_answer T B k n width) (refused refusal.Count) in
    elim (cases_Bool both) [
      | inl a ↦ (
          let p = and_parts (ltb k (components T)) (count_within n) a in
          let h1 : inner ≡ refused e = sym (cond-true (ltb k (components T)) inner (refused refusal.Component) p.0) ∙ h in
          refine_accepted T B k n width e (sym (cond-true (count_within n) (refine_answer T B k n width) (refused refusal.Count) p.1) ∙ h1))
      | inr a ↦ cond-false both next_one (loaded T B) a
    ]
loaded_unchanged T B (sweeping n) e h =
    let made = swept (sweeps (setting_of T) n B).made in
    elim (cases_Bool (count_within n)) [
      | inl b ↦ sweep_accepted T B (sweeps (setting_of T) n B).made e (sym (cond-true (count_within n) made (refused refusal.Count) b) ∙ h)
      | inr b ↦ cond-false (count_within n) (loaded T (sweeps (setting_of T) n B).book) (loaded T B) b
    ]
loaded_unchanged T B close e h = never e h
loaded_unchanged T B (quote s width) e h = refl
loaded_unchanged T B (plan list) e h = refl

idle_unchanged : (d : Fault) (c : Call) (e : Refusal) → answer_idle d c ≡ refused e → after_idle d c ≡ idle d
unfolding answer_idle after_idle
idle_unchanged d (load T) e h = load_unchanged (idle d) T e h
idle_unchanged d standing e h = refl
idle_unchanged d (refines k n width) e h = refl
idle_unchanged d (sweeping n) e h = refl
idle_unchanged d close e h = refl
idle_unchanged d (quote s width) e h = refl
idle_unchanged d (plan list) e h = refl

pub unchanged : (S : State) (c : Call) (e : Refusal) → answer S c ≡ refused e → next S c ≡ S
unfolding answer next
unchanged (idle d) c e h = idle_unchanged d c e h
unchanged (loaded T B) c e h = loaded_unchanged T B c e h

-- An accepted load

pub next_load : (S : State) (T : Table) → next S (load T) ≡ after_load T S
unfolding next after_idle after_call
next_load (idle d) T = refl
next_load (loaded T' B) T = refl

pub opens : (T : Table) → fault_of T ≡ None → opened T ≡ fresh T
unfolding opened
opens T h = ap (λ (o : Option Fault). elim o [ Some e ↦ idle e | None ↦ fresh T ]) h

pub forgets : (S : State) (calls : List Call) (T : Table) → fault_of T ≡ None → run S (calls ++ (load T ∷ [])) ≡ opened T
unfolding run
forgets S [] T h = next_load S T ∙ after_kept T S h ∙ sym (opens T h)
forgets S (c ∷ cs) T h = forgets (next S c) cs T h

closes : (T : Table) (B : Book) → next (loaded T B) close ≡ fresh T
unfolding next after_call
closes T B = refl

reopens : (T : Table) (B : Book) → fault_of T ≡ None → next (loaded T B) close ≡ opened T
reopens T B h = closes T B ∙ sym (opens T h)

-- A fault of an earlier load

as_opened : (S : State) (T : Table) → S ≡ opened T → AsOpened S T
as_opened S T h = record {
  holds = h;
  answers = λ later. ap (λ (R : State). answers R later) h;
  leads = λ later. ap (λ (R : State). run R later) h;
}

-- an accepted load has a table that keeps all limits
accepted : (T : Table) → load_answer T ≡ done → fault_of T ≡ None
accepted T h =
    elim (found_or_none (fault_of T)) [
      | inl k ↦ k
      | inr w ↦ never (refusal.Table w.0) (sym h ∙ answer_broken T w.0 w.1)
    ]

-- the last load of a list decides
last_load : (S : State) (calls : List Call) (c : Call) (T : Table) → fault_of T ≡ None
    → run S (calls ++ (c ∷ load T ∷ [])) ≡ opened T
unfolding run
last_load S [] c T h = forgets S (c ∷ []) T h
last_load S (d ∷ ds) c T h = last_load (next S d) ds c T h

old_fault : (first faulty T : Table) (calls : List Call) (e : Refusal)
    → answer (run (opened first) calls) (load faulty) ≡ refused e
    → answer (run (opened first) (calls ++ (load faulty ∷ []))) (load T) ≡ done
    → AsOpened (run (opened first) (calls ++ (load faulty ∷ load T ∷ []))) T
old_fault first faulty T calls e r a =
    let before : State = run (opened first) (calls ++ (load faulty ∷ [])) in
    let k = accepted T (sym (load-answer before T) ∙ a) in
    as_opened (run (opened first) (calls ++ (load faulty ∷ load T ∷ []))) T (last_load (opened first) calls (load faulty) T k)

pub refusal_law : RefusalLaw
refusal_law = record {
  reasoned = has_reason;
  refuses = refused_by;
  numbers = λ T e h. breaks_of T e ((walk_law T).first e h).broken;
  walks = walk_law;
  unchanged = unchanged;
  closes = closes;
  reopens = reopens;
  forgets = forgets;
  old_fault = old_fault;
}
