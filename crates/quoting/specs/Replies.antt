-- What one line of the input is answered, and what the engine holds after it.
use Rattle.std.specs.Prelude.{ℕ, List, [], ◌∷◌, map, take, replicate, pos, Some, None, Option, Ok, Err, Result}
use Rattle.history.specs.Calls.{State, idle, loaded, Call, refines, sweeping, quote, plan, close}
use Rattle.history.specs.Answers.{Answer, refused, done, stands, unopened, refined, swept, quoted, planned, answer}
use Rattle.history.specs.declared.refusal.Refusal.{Refusal}
use Rattle.console.specs.Lines.{answer_line}
use Rattle.console.specs.Answers.{line_bytes}
use Rattle.console.specs.declared.answer.AnswerLine.{AnswerLine}
use Rattle.console.specs.Commands.{command_of}
use Rattle.console.specs.Spelling.{letter_of}
use Rattle.console.specs.declared.command.Command.{Command}
use Rattle.console.specs.declared.command.Command.TheVariants.{Refine, Sweep, Quote, Plan, Close}
use Rattle.quoting.specs.Refused.{refused_table, refused_line, unread_line}

-- the call that a command makes; the plan's list is the program's own and has 256 places
abbrev pub call_of : Command → Call
call_of (Refine component steps width) = refines component steps width
call_of (Sweep count) = sweeping count
call_of (Quote state width) = quote state width
call_of Plan = plan (replicate 256 0)
call_of Close = close

-- how many states there are
abbrev pub states_of : State → ℕ
states_of (idle e) = 0
states_of (loaded T B) = T.states

-- an answer as a line: the letter and the numbers, of a plan the choices of the `states` states; or a refusal, of the command on this line
-- or of the table that was opened
abbrev pub written : ℕ → ℕ → ℕ → Answer → List ℕ
written line letter states (refused e) = refused_line line e
written line letter states done = answer_line letter []
written line letter states (stands n components) = answer_line letter (pos n ∷ pos components ∷ [])
written line letter states (unopened e) = refused_table e
written line letter states (refined made lo hi) = answer_line letter (pos made ∷ lo ∷ hi ∷ [])
written line letter states (swept made) = answer_line letter (pos made ∷ [])
written line letter states (quoted lower upper mark) = answer_line letter (lower ∷ upper ∷ pos mark ∷ [])
written line letter states (planned list) = answer_line letter (map pos (take states list))

-- the line of a call's result: its answer's, or that of the refusal of the command on this line
abbrev pub replied : ℕ → Result AnswerLine Refusal → List ℕ
replied line (Ok a) = line_bytes a
replied line (Err e) = refused_line line e

-- what is answered to the command that a line spells, if it spells one
abbrev pub reply_to : ℕ → State → Option Command → List ℕ
reply_to line S None = unread_line line
reply_to line S (Some c) = written line (letter_of c) (states_of S) (answer S (call_of c))

-- what is answered to the line with this number
abbrev pub reply : ℕ → State → List ℕ → List ℕ
reply number S line = reply_to number S (command_of line)

-- the call that a line makes: none if it spells no command
abbrev pub call_in : Option Command → List Call
call_in None = []
call_in (Some c) = call_of c ∷ []
