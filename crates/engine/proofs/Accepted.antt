-- What an accepted call answers and leaves.
use Rattle.std.proofs.Common.{◌≡◌, ℕ, ◌<◌, ◌≤◌, Bool, true, cond, ◌&&◌, ltb, leb, List, ◌++◌, length, drop, ℤ, pos, ◌-ℤ◌, Some, None, Option, Ok, Err, Result, sym, refl, ap, ◌∙◌, ap₂}
use Rattle.std.specs.Prelude.{MatchResult}
use Rattle.std.specs.Result.{result_err}
use lib.Signed.{le_z}
use Rattle.std.proofs.lemmas.Bool.{and_from, cond-true, lt-ltb, le-leb}
use Rattle.table.specs.Table.{Table}
use Rattle.table.specs.Walk.{fault_of}
use Rattle.table.specs.declared.fault.Fault.{Fault}
use Rattle.table.proofs.WalkLaw.{walk_law}
use Rattle.components.specs.Nodes.{components}
use Rattle.rules.specs.Choosing.{tabulate, at_z}
use Rattle.rules.specs.Setting.{setting_of}
use Rattle.rules.specs.Book.{Book}
use Rattle.rules.specs.Refine.{refine}
use Rattle.rules.specs.Sweep.{sweeps}
use Rattle.rules.specs.Play.{play}
use Rattle.rules.specs.Promises.{upper_at, lower_at}
use Rattle.rules.specs.Runs.{changed}
use Rattle.rules.specs.Runs as change
use Rattle.book.specs.Desks.{desk_table, desk_book, AtStart, steps_made, bounds_at, plan_in}
use Rattle.book.specs.declared.desk.Desk.{Desk}
use Rattle.model.specs.Loads.{StaysAt}
use Rattle.history.specs.Calls.{State, idle, loaded, load, standing, refines, sweeping, close, quote, plan, count_within, fresh, opened, after_call, next}
use Rattle.history.specs.Answers.{Answer, refused, done, stands, refined, swept, quoted, planned, refine_answer, quote_answer, plan_answer, answer_loaded, answer}
use Rattle.history.specs.declared.refusal.Refusal.TheVariants as refusal
use Rattle.engine.specs.States.{held_state}
use Rattle.history.proofs.Refusing.{answer_broken, answer_kept, after_broken, after_kept, next_load, load-answer}

module _ (T : Table) (B : Book) where
  -- a refine of an existing component
  pub refine-answer : (A : Book) (k n width made : ℕ) (lo hi : ℤ) → k < components T → count_within n ≡ true
      → made ≡ steps_made T B k n width → A ≡ changed (setting_of T) (change.refines k n width) B → lo ≡ at_z A.lo k → hi ≡ at_z A.hi k
      → refined made lo hi ≡ answer (loaded T B) (refines k n width)
  unfolding answer answer_loaded refine_answer steps_made changed
  refine-answer A k n width made lo hi h e m a l u =
      let r = refine (setting_of T) k n width B in
      let t : ltb k (components T) ≡ true = lt-ltb k (components T) h in
      let inner = cond (count_within n) (refine_answer T B k n width) (refused refusal.Count) in
      let a' : A ≡ r.book = a ∙ cond-true (ltb k (components T)) r.book B t in
      let one : refined made lo hi ≡ refined r.made lo hi = ap (λ (x : ℕ). refined x lo hi) (m ∙ cond-true (ltb k (components T)) r.made 0 t) in
      let two : refined r.made lo hi ≡ refined r.made (at_z r.book.lo k) hi = ap (λ (x : ℤ). refined r.made x hi) (l ∙ ap (λ (D : Book). at_z D.lo k) a') in
      let three : refined r.made (at_z r.book.lo k) hi ≡ refine_answer T B k n width = ap (λ (x : ℤ). refined r.made (at_z r.book.lo k) x) (u ∙ ap (λ (D : Book). at_z D.hi k) a') in
      one ∙ two ∙ three ∙ sym (cond-true (count_within n) (refine_answer T B k n width) (refused refusal.Count) e)
      ∙ sym (cond-true (ltb k (components T)) inner (refused refusal.Component) t)

  pub refine_next : (T' : Table) (A : Book) (k n width : ℕ) → k < components T → count_within n ≡ true → T' ≡ T
      → A ≡ changed (setting_of T) (change.refines k n width) B → loaded T' A ≡ next (loaded T B) (refines k n width)
  unfolding next after_call changed
  refine_next T' A k n width h e s a =
      let r = refine (setting_of T) k n width B in
      let t : ltb k (components T) ≡ true = lt-ltb k (components T) h in
      ap₂ loaded s (a ∙ cond-true (ltb k (components T)) r.book B t)
      ∙ sym (cond-true (ltb k (components T) && count_within n) (loaded T r.book) (loaded T B) (and_from (ltb k (components T)) (count_within n) t e))

  -- sweeps
  pub sweep_answer : (n made : ℕ) → count_within n ≡ true → made ≡ (sweeps (setting_of T) n B).made → swept made ≡ answer (loaded T B) (sweeping n)
  unfolding answer answer_loaded
  sweep_answer n made e m = ap swept m ∙ sym (cond-true (count_within n) (swept (sweeps (setting_of T) n B).made) (refused refusal.Count) e)

  pub sweep_next : (T' : Table) (A : Book) (n : ℕ) → count_within n ≡ true → T' ≡ T → A ≡ changed (setting_of T) (change.sweeping n) B
      → loaded T' A ≡ next (loaded T B) (sweeping n)
  unfolding next after_call changed
  sweep_next T' A n e s a = ap₂ loaded s a ∙ sym (cond-true (count_within n) (loaded T (sweeps (setting_of T) n B).book) (loaded T B) e)

  -- a close
  pub close_answer : done ≡ answer (loaded T B) close
  unfolding answer answer_loaded
  close_answer = refl

  pub close_next : (T' : Table) (A : Book) → T' ≡ T → A ≡ changed (setting_of T) change.closing B → loaded T' A ≡ next (loaded T B) close
  unfolding next after_call changed
  close_next T' A s a = ap₂ loaded s a

  -- a quote of an existing state
  pub quote-answer : (s width : ℕ) (mark : Bool) (p : ℤ × ℤ) → s < T.states → p ≡ bounds_at T B s → mark ≡ le_z (p.1 -ℤ p.0) (pos width)
      → quoted p.0 p.1 (cond mark 1 0) ≡ answer (loaded T B) (quote s width)
  unfolding answer answer_loaded quote_answer bounds_at
  quote-answer s width mark p h e m =
      let M = setting_of T in
      let t : ltb s T.states ≡ true = lt-ltb s T.states h in
      let b : p ≡ (lower_at M B s, upper_at M B s) = e ∙ cond-true (ltb s T.states) (lower_at M B s, upper_at M B s) (pos 0, pos 0) t in
      ap (λ (b : Bool). quoted p.0 p.1 (cond b 1 0)) m
      ∙ ap (λ (q : ℤ × ℤ). quoted q.0 q.1 (cond (le_z (q.1 -ℤ q.0) (pos width)) 1 0)) b
      ∙ sym (cond-true (ltb s T.states) (quote_answer T B s width) (refused refusal.State) t)

  -- a plan in a list that is long enough
  pub plan-answer : (list written : List ℕ) → T.states ≤ length list → written ≡ plan_in T B list → planned written ≡ answer (loaded T B) (plan list)
  unfolding answer answer_loaded plan_answer plan_in
  plan-answer list written h e =
      let t : leb T.states (length list) ≡ true = le-leb T.states (length list) h in
      let whole = tabulate T.states (play T B) ++ drop T.states list in
      ap planned (e ∙ cond-true (leb T.states (length list)) whole list t)
      ∙ sym (cond-true (leb T.states (length list)) (plan_answer T B list) (refused refusal.Room) t)

  -- standing
  pub standing_answer : (n k : ℕ) → n ≡ T.states → k ≡ components T → stands n k ≡ answer (loaded T B) standing
  unfolding answer answer_loaded
  standing_answer n k e g = ap₂ stands e g

-- An open and a load

unbroken : (T : Table) (d : Desk) → AtStart T d → fault_of T ≡ None
unbroken T d a = (walk_law T).lawful.1 a.lawful

at_start : (T : Table) (d : Desk) → AtStart T d → loaded (desk_table d) (desk_book d) ≡ fresh T
at_start T d a = ap₂ loaded a.same a.start

opens : (T : Table) (o : Option Fault) → fault_of T ≡ o → opened T ≡ elim o [ Some e ↦ idle e | None ↦ fresh T ]
unfolding opened
opens T o h = ap (λ (o : Option Fault). elim o [ Some e ↦ idle e | None ↦ fresh T ]) h

-- an engine with the desk after its load, and with the fault of that load, if any
pub opened_by : (T : Table) (was d : Desk) (r : Result (Unit {0}) Fault) (o : Option Fault) → MatchResult r (λ _. AtStart T d) (StaysAt T was d)
    → o ≡ result_err r → held_state o d ≡ opened T
opened_by T was d (Ok x) o a h = ap (λ (o : Option Fault). held_state o d) h ∙ at_start T d a ∙ sym (opens T None (unbroken T d a))
opened_by T was d (Err e) o a h = ap (λ (o : Option Fault). held_state o d) h ∙ sym (opens T (Some e) a.0)

-- a load's answer, and what it leaves
pub record LoadGives (T : Table) (R S : State) (a : Answer) : Type 0 where
  pub answer : a ≡ answer R (load T)
  pub holds : S ≡ next R (load T)

pub load_accepted : (T : Table) (R : State) (d : Desk) → AtStart T d → LoadGives T R (loaded (desk_table d) (desk_book d)) done
load_accepted T R d a =
    let h = unbroken T d a in
    record { answer = sym (load-answer R T ∙ answer_kept T h); holds = at_start T d a ∙ sym (next_load R T ∙ after_kept T R h) }

pub load_broken : (T : Table) (R : State) (e : Fault) → fault_of T ≡ Some e → LoadGives T R R (refused (refusal.Table e))
load_broken T R e h = record { answer = sym (load-answer R T ∙ answer_broken T e h); holds = sym (next_load R T ∙ after_broken T e R h) }
