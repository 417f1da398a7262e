-- From the line of a call's result to the answer to its command.
use Rattle.std.proofs.Common.{◌≡◌, ℕ, Bool, true, false, cond, leb, List, ◌++◌, map, length, drop, replicate, pos, Some, None, Ok, Err, Option, Result, sym, refl, ap, ◌∙◌, arith}
use Rattle.std.proofs.lemmas.List.{take_at}
use Rattle.std.specs.Result.{MatchResult}
use Rattle.table.specs.declared.fault.Fault.{Fault}
use Rattle.rules.specs.Choosing.{tabulate}
use Rattle.rules.specs.Play.{play}
use Rattle.rules.proofs.Places.{tabulate_length}
use Rattle.history.specs.Calls.{State, idle, loaded, standing, plan, next, run}
use Rattle.history.specs.Answers.{Answer, refused, stands, unopened, planned, answer, answer_idle, answer_loaded, plan_answer}
use Rattle.history.specs.declared.refusal.Refusal.TheVariants.{Room}
use Rattle.engine.specs.States.{answer_by}
use Rattle.console.specs.Lines.{answer_line}
use Rattle.console.specs.Spelling.{letter_of}
use Rattle.console.specs.declared.command.Command.{Command}
use Rattle.console.specs.declared.command.Command.TheVariants.{Plan}
use Rattle.quoting.specs.Replies.{call_of, call_in, states_of, written}

never : {A : Type 0} → ◌≡◌ {A = ℕ} 0 1 → A
never e = absurd (omega arith)

-- a plan's line has the choices of the states alone, so it is the same in every list that is as long
same_line : (b : Bool) (line n : ℕ) (front rest other : List ℕ) → length front ≡ n
    → written line 80 n (cond b (planned (front ++ rest)) (refused Room)) ≡ written line 80 n (cond b (planned (front ++ other)) (refused Room))
same_line true line n front rest other h = ap (λ (choices : List ℕ). answer_line 80 (map pos choices)) (take_at front rest n h ∙ sym (take_at front other n h))
same_line false line n front rest other h = refl

same_plan : (S : State) (line : ℕ) (list : List ℕ) → length list ≡ 256
    → written line 80 (states_of S) (answer S (plan list)) ≡ written line 80 (states_of S) (answer S (call_of Plan))
unfolding answer answer_idle answer_loaded plan_answer
same_plan (idle e) line list h = refl
same_plan (loaded T B) line list h =
    let choices : List ℕ = tabulate T.states (play T B) in
    ap (λ (n : ℕ). written line 80 T.states (cond (leb T.states n) (planned (choices ++ drop T.states list)) (refused Room))) h
    ∙ same_line (leb T.states 256) line T.states choices (drop T.states list) (drop T.states (replicate 256 0)) (tabulate_length T.states (play T B))

-- and a plan's answer in such a list is that of the command
pub plan_line : (S : State) (line : ℕ) (list : List ℕ) (command : Command) (a : Answer) → length list ≡ 256 → a ≡ answer S (plan list) → command ≡ Plan
    → written line 80 (states_of S) a ≡ written line (letter_of command) (states_of S) (answer S (call_of command))
plan_line S line list command a h e p =
    ap (written line 80 (states_of S)) e ∙ same_plan S line list h
    ∙ sym (ap (λ (c : Command). written line (letter_of c) (states_of S) (answer S (call_of c))) p)

-- how many states there are
pub counted_states : (S : State) (r : Result (ℕ × ℕ) Fault) (n : ℕ) → answer_by (λ (x : ℕ × ℕ). stands x.0 x.1) unopened r ≡ answer S standing → MatchResult r (λ a. n ≡ a.0) (λ _. n ≡ 0) → n ≡ states_of S
unfolding answer answer_idle answer_loaded
counted_states (idle e) (Ok a) n h k = never (cc)
counted_states (idle e) (Err f) n h k = k
counted_states (loaded T B) (Ok a) n h k = cc
counted_states (loaded T B) (Err f) n h k = never (cc)

-- what the engine holds after a line
pub performed : (S T : State) (command : Command) (o : Option Command) → Some command ≡ o → T ≡ next S (call_of command) → T ≡ run S (call_in o)
unfolding run
performed S T command o e h = h ∙ ap (λ (p : Option Command). run S (call_in p)) e

pub passed : (S : State) (o : Option Command) → None ≡ o → S ≡ run S (call_in o)
unfolding run
passed S o e = ap (λ (p : Option Command). run S (call_in p)) e
