-- The answers to lines, one after the other.
use Rattle.std.proofs.Common.{◌≡◌, ℕ, suc, ◌+◌, ◌≤◌, Bool, true, false, cond, leb, List, [], ◌∷◌, ◌++◌, length, replicate, Some, None, Option, sym, refl, ap, ◌∙◌, arith}
use Rattle.std.proofs.lemmas.Bool.{cond-true, le-leb}
use Rattle.table.specs.Table.{Table}
use Rattle.rules.specs.Book.{Book}
use Rattle.history.specs.Calls.{State, loaded, Call, next, after_call, run}
use Rattle.history.specs.Answers.{refused, answer, answer_loaded, plan_answer}
use Rattle.history.specs.declared.refusal.Refusal.{Refusal}
use Rattle.history.specs.declared.refusal.Refusal.TheVariants as refusal
use Rattle.console.specs.Commands.{command_of}
use Rattle.console.specs.declared.command.Command.{Command}
use Rattle.console.specs.declared.command.Command.TheVariants.{Refine, Sweep, Quote, Plan, Close}
use Rattle.quoting.specs.Replies.{call_of, call_in, reply}
use Rattle.quoting.specs.Runs.{calls_in, replies, RepliesLaw}

-- calls after calls
pub run_append : (S : State) (calls later : List Call) → run S (calls ++ later) ≡ run (run S calls) later
unfolding run
run_append S [] later = refl
run_append S (c ∷ cs) later = run_append (next S c) cs later

single : (number : ℕ) (S : State) (lines : List (List ℕ)) → length (replies number S lines) ≡ length lines
single number S [] = refl
single number S (line ∷ lines) = ap suc (single (suc number) (run S (call_in (command_of line))) lines)

parts : (number : ℕ) (S : State) (earlier later : List (List ℕ))
    → replies number S (earlier ++ later) ≡ replies number S earlier ++ replies (number + length earlier) (run S (calls_in earlier)) later
unfolding run
parts number S [] later =
    let n : number ≡ number + 0 = omega arith in
    ap (λ (k : ℕ). replies k S later) n
parts number S (line ∷ lines) later =
    let held : State = run S (call_in (command_of line)) in
    let n : suc number + length lines ≡ number + suc (length lines) = omega arith in
    let t = run_append S (call_in (command_of line)) (calls_in lines) in
    let e = parts (suc number) held lines later in
    let f : replies (suc number + length lines) (run held (calls_in lines)) later ≡ replies (number + suc (length lines)) (run S (calls_in (line ∷ lines))) later =
    ap (λ (k : ℕ). replies k (run held (calls_in lines)) later) n ∙ ap (λ (T : State). replies (number + suc (length lines)) T later) (sym t) in
    ap (λ (ls : List (List ℕ)). reply number S line ∷ ls) (e ∙ ap (λ (ls : List (List ℕ)). replies (suc number) held lines ++ ls) f)

either : (b : Bool) (T : Table) (B C : Book) → (D : Book) × (cond b (loaded T B) (loaded T C) ≡ loaded T D)
either true T B C = (B, refl)
either false T B C = (C, refl)

after_command : (T : Table) (B : Book) (c : Command) → (D : Book) × (next (loaded T B) (call_of c) ≡ loaded T D)
unfolding next after_call
after_command T B (Refine k n width) = either _ T _ B
after_command T B (Sweep n) = either _ T _ B
after_command T B (Quote s width) = (B, refl)
after_command T B Plan = (B, refl)
after_command T B Close = (_, refl)

after_line : (T : Table) (B : Book) (o : Option Command) → (D : Book) × (run (loaded T B) (call_in o) ≡ loaded T D)
unfolding run
after_line T B None = (B, refl)
after_line T B (Some c) = after_command T B c

stays : (T : Table) (B : Book) (lines : List (List ℕ)) → (D : Book) × (run (loaded T B) (calls_in lines) ≡ loaded T D)
unfolding run
stays T B [] = (B, refl)
stays T B (line ∷ lines) =
    let p = after_line T B (command_of line) in
    let q = stays T p.0 lines in
    (q.0, run_append (loaded T B) (call_in (command_of line)) (calls_in lines) ∙ ap (λ (S : State). run S (calls_in lines)) p.1 ∙ q.1)

roomy : (T : Table) (B : Book) → T.states ≤ 256 → (e : Refusal) → answer (loaded T B) (call_of Plan) ≡ refused e → ⊥
unfolding answer answer_loaded plan_answer
roomy T B h e k =
    let room = cond-true (leb T.states 256) (plan_answer T B (replicate 256 0)) (refused refusal.Room) (le-leb T.states 256 h) in
    let z : ◌≡◌ {A = ℕ} 0 1 = cc in
    omega arith

pub replies_law : RepliesLaw
replies_law = record { single = single; stays = stays; roomy = roomy; parts = parts }
