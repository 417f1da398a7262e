-- A list of calls made on one engine, each starting from what the one before left.
use Rattle.std.specs.Prelude.{◌≡◌, ℕ, List, [], ◌∷◌, ◌++◌, map, Some, Option, if◌then◌else◌, vec_items}
use Rattle.std.specs.Option.{option_map}
use Rattle.table.specs.Table.{Table}
use Rattle.history.specs.Calls as history
use Rattle.history.specs.Answers as answered
use Rattle.history.specs.Histories.{BoundsHold, Onward, HistoryLaw}
use Rattle.engine.specs.States.{list_after}
use Rattle.engine.specs.declared.call.Call.{Call}
use Rattle.engine.specs.declared.call.Call.TheVariants as call
use Rattle.engine.specs.declared.call.Answer.{Answer}
use Rattle.engine.specs.declared.call.Answer.TheVariants as result
use Rattle.engine.specs.declared.call.Asked.{Asked}

-- what each call of the code stands for, by the tables of its sources
abbrev pub call_of : {S : Type 0} → (S → Table) → Call S → history.Call
call_of table (call.Load source) = history.load (table source)
call_of table call.Standing = history.standing
call_of table (call.Refine component steps width) = history.refines component steps width
call_of table (call.Sweep count) = history.sweeping count
call_of table call.Close = history.close
call_of table (call.Quote state width) = history.quote state width
call_of table (call.Plan list) = history.plan (vec_items list)

-- the list of a plan; no other call has one
abbrev pub list_in : {S : Type 0} → Call S → List ℕ
list_in (call.Plan list) = vec_items list
list_in _ = []

-- what each answer of the code stands for, with the list of its call
abbrev pub answer_of : List ℕ → Answer → answered.Answer
answer_of list result.Done = answered.done
answer_of list (result.Stands n k) = answered.stands n k
answer_of list (result.Unopened e) = answered.unopened e
answer_of list (result.Refined made lo hi) = answered.refined made lo hi
answer_of list (result.Swept made) = answered.swept made
answer_of list (result.Quoted lower upper mark) = answered.quoted lower upper (if mark then 1 else 0)
answer_of list result.Planned = answered.planned list
answer_of list (result.Refused e) = answered.refused e

-- a call after its answer: a plan's list is what it is then, and every other call is as it was
abbrev pub call_after : answered.Answer → history.Call → history.Call
call_after a (history.plan list) = history.plan (list_after a list)
call_after a c = c

-- one call of the code, from R to R'
pub record Makes {S : Type 0} (table : S → Table) (R R' : history.State) (before after : Call S) (a : Answer) : Type 0 where
  pub answers : answer_of (list_in after) a ≡ answered.answer R (call_of table before)
  pub call : call_of table after ≡ call_after (answered.answer R (call_of table before)) (call_of table before)
  pub holds : R' ≡ history.next R (call_of table before)

-- the calls of a list, and the answers that stand in their places
abbrev pub calls_of : {S : Type 0} → (S → Table) → List (Asked S) → List history.Call
calls_of table asked = map (λ (one : Asked _). call_of table one.call) asked

abbrev pub answers_in : {S : Type 0} → List (Asked S) → List (Option answered.Answer)
answers_in asked = map (λ (one : Asked _). option_map (answer_of (list_in one.call)) one.answer) asked

-- the calls of a list after their answers
abbrev pub calls_after : List answered.Answer → List history.Call → List history.Call
calls_after [] cs = cs
calls_after (a ∷ bs) [] = []
calls_after (a ∷ bs) (c ∷ cs) = call_after a c ∷ calls_after bs cs

-- An open of the table T, and then the calls of a list, leave the state S.
pub record Replayed {A : Type 0} (table : A → Table) (T : Table) (before after : List (Asked A)) (S : history.State) : Type 0 where
  -- each call starts from what the one before left, and its answer stands in its place
  pub holds : S ≡ history.run (history.opened T) (calls_of table before)
  pub answers : answers_in after ≡ map (λ (a : answered.Answer). Some a) (answered.answers (history.opened T) (calls_of table before))
  pub calls : calls_of table after ≡ calls_after (answered.answers (history.opened T) (calls_of table before)) (calls_of table before)
  -- bounds and plan hold of what the engine holds, as they did after each beginning of the list
  pub now : BoundsHold S
  pub along : (earlier later : List history.Call) → calls_of table before ≡ earlier ++ later → BoundsHold (history.run (history.opened T) earlier)
  -- from each of these on, until the next accepted load or close, bounds only tightened: up to now, and up to each later one
  pub tightened : (earlier later : List history.Call) → calls_of table before ≡ earlier ++ later
      → history.Quiet (history.run (history.opened T) earlier) later → Onward (history.run (history.opened T) earlier) S
  pub between : (earlier middle later : List history.Call) → calls_of table before ≡ (earlier ++ middle) ++ later
      → history.Quiet (history.run (history.opened T) earlier) middle
      → Onward (history.run (history.opened T) earlier) (history.run (history.opened T) (earlier ++ middle))
  -- and the law goes on holding, whatever calls follow these
  pub law : HistoryLaw T
