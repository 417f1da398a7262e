-- What each call answers.
use Rattle.std.specs.Prelude.{ℕ, cond, List, [], ◌∷◌, ◌++◌, length, drop, ℤ, pos, ◌-ℤ◌, Some, None, int_le, nat_le, nat_lt}
use Rattle.table.specs.Table.{Table}
use Rattle.table.specs.Walk.{fault_of}
use Rattle.table.specs.declared.fault.Fault.{Fault}
use Rattle.components.specs.Nodes.{components}
use Rattle.rules.specs.Choosing.{tabulate, at_z}
use Rattle.rules.specs.Setting.{setting_of}
use Rattle.rules.specs.Book.{Book}
use Rattle.rules.specs.Refine.{refine}
use Rattle.rules.specs.Sweep.{sweeps}
use Rattle.rules.specs.Play.{play}
use Rattle.rules.specs.Promises.{upper_at, lower_at}
use Rattle.history.specs.Calls.{State, idle, loaded, Call, load, standing, refines, sweeping, close, quote, plan, count_within, next}
use Rattle.history.specs.declared.refusal.Refusal.{Refusal}
use Rattle.history.specs.declared.refusal.Refusal.TheVariants as refusal

pub data Answer : Type 0 where
  refused : Refusal → Answer
  -- a load or a close
  done : Answer
  -- standing: states and components
  stands : ℕ → ℕ → Answer
  -- standing of an idle engine: the fault of its open
  unopened : Fault → Answer
  -- steps made, lo and hi of the component then
  refined : ℕ → ℤ → ℤ → Answer
  -- sweeps made
  swept : ℕ → Answer
  -- L, U, and 1 exactly if U - L is at most the width, else 0
  quoted : ℤ → ℤ → ℕ → Answer
  -- the caller's list then
  planned : List ℕ → Answer

-- a load
unfoldable pub load_answer : Table → Answer
load_answer T =
    elim (fault_of T) [
      | Some e ↦ refused (refusal.Table e)
      | None ↦ done
    ]

-- a refine of an existing component
unfoldable pub refine_answer : Table → Book → ℕ → ℕ → ℕ → Answer
refine_answer T B k n width =
    let r = refine (setting_of T) k n width B in
    refined r.made (at_z r.book.lo k) (at_z r.book.hi k)

-- a quote of an existing state
unfoldable pub quote_answer : Table → Book → ℕ → ℕ → Answer
quote_answer T B s width =
    let M = setting_of T in
    quoted (lower_at M B s) (upper_at M B s) (cond (int_le (upper_at M B s -ℤ lower_at M B s) (pos width)) 1 0)

-- a plan in a list that is long enough: the choices of the states, then the rest of the list
unfoldable pub plan_answer : Table → Book → List ℕ → Answer
plan_answer T B list = planned (tabulate T.states (play T B) ++ drop T.states list)

-- a loaded engine; no such component comes before a count outside its limits
unfoldable pub answer_loaded : Table → Book → Call → Answer
answer_loaded T B (load T') = load_answer T'
answer_loaded T B standing = stands T.states (components T)
answer_loaded T B (refines k n width) =
    cond (nat_lt k (components T)) (cond (count_within n) (refine_answer T B k n width) (refused refusal.Count)) (refused refusal.Component)
answer_loaded T B (sweeping n) = cond (count_within n) (swept (sweeps (setting_of T) n B).made) (refused refusal.Count)
answer_loaded T B close = done
answer_loaded T B (quote s width) = cond (nat_lt s T.states) (quote_answer T B s width) (refused refusal.State)
answer_loaded T B (plan list) = cond (nat_le T.states (length list)) (plan_answer T B list) (refused refusal.Room)

-- an idle engine: standing answers the fault of its open, and what needs a table is refused
unfoldable pub answer_idle : Fault → Call → Answer
answer_idle e (load T) = load_answer T
answer_idle e standing = unopened e
answer_idle e (refines k n width) = refused refusal.Idle
answer_idle e (sweeping n) = refused refusal.Idle
answer_idle e close = refused refusal.Idle
answer_idle e (quote s width) = refused refusal.Idle
answer_idle e (plan list) = refused refusal.Idle

unfoldable pub answer : State → Call → Answer
answer (idle e) c = answer_idle e c
answer (loaded T B) c = answer_loaded T B c

-- what each call of a list answers, the oldest first
unfoldable pub answers : State → List Call → List Answer
answers S [] = []
answers S (c ∷ cs) = answer S c ∷ answers (next S c) cs
