-- A whole run of the quote program: the lines that it writes for a model file and an input.
use Rattle.std.specs.Prelude.{◌≡◌, ℕ, suc, ◌+◌, ◌≤◌, List, [], ◌∷◌, ◌++◌, length, Some, None, Ok, Err, Option, Result, ◌≢◌}
use Rattle.std.specs.List.{flat_map}
use Rattle.table.specs.Table.{Table}
use Rattle.rules.specs.Book.{Book}
use Rattle.modelfile.specs.Lists.{outcome}
use Rattle.modelfile.specs.declared.fault.FileFault.{FileFault}
use Rattle.history.specs.Calls.{State, idle, loaded, Call, standing, opened, run}
use Rattle.history.specs.Answers.{refused, answer}
use Rattle.history.specs.declared.refusal.Refusal.{Refusal}
use Rattle.console.specs.Commands.{command_of}
use Rattle.console.specs.Inputs.{lines_of}
use Rattle.console.specs.declared.command.Command.TheVariants.{Plan}
use Rattle.quoting.specs.Refused.{refused_file}
use Rattle.quoting.specs.Replies.{call_of, call_in, written, reply}
use Rattle.quoting.specs.Models.{table_read}

-- the first line: `L states components`, or the refusal of the model, which names no line
abbrev pub opening : State → List ℕ
opening S = written 0 76 0 (answer S standing)

-- the first line, and what the engine holds; a refused model ends the run after its line
abbrev pub begins : State → List ℕ × Option State
begins (idle e) = (opening (idle e), None)
begins (loaded T B) = (opening (loaded T B), Some (loaded T B))

-- and so does a refused file
abbrev pub begins_with : Result Table FileFault → List ℕ × Option State
begins_with (Err e) = (refused_file e, None)
begins_with (Ok T) = begins (opened T)

-- the file is read into lists of 256 states, 1,024 choices and 4,096 branches
unfoldable pub start : List ℕ → List ℕ × Option State
start file = begins_with (table_read (outcome file 256 1024 4096))

-- the answers to lines, of which the first has this number; each call goes on from what the calls before it left
abbrev pub replies : ℕ → State → List (List ℕ) → List (List ℕ)
replies number S [] = []
replies number S (line ∷ lines) = reply number S line ∷ replies (suc number) (run S (call_in (command_of line))) lines

-- what follows the first line: an answer to each line of the input
abbrev pub goes_on : Option State → List ℕ → List (List ℕ)
goes_on None input = []
goes_on (Some S) input = replies 1 S (lines_of input)

-- the lines of a whole run
abbrev pub transcript : List ℕ → List ℕ → List (List ℕ)
transcript file input = (start file).0 ∷ goes_on (start file).1 input

-- lines as they are written, each with its line feed
abbrev pub bytes_of : List (List ℕ) → List ℕ
bytes_of lines = flat_map (λ line. line ++ (10 ∷ [])) lines

-- the calls that lines make, in their order
abbrev pub calls_in : List (List ℕ) → List Call
calls_in [] = []
calls_in (line ∷ lines) = call_in (command_of line) ++ calls_in lines

pub record RepliesLaw : Type 0 where
  -- a line is answered by one line
  pub single : (number : ℕ) (S : State) (lines : List (List ℕ)) → length (replies number S lines) ≡ length lines
  -- whatever the lines are, the table stays loaded
  pub stays : (T : Table) (B : Book) (lines : List (List ℕ)) → (later : Book) × (run (loaded T B) (calls_in lines) ≡ loaded T later)
  -- and its plan has room in the program's list
  pub roomy : (T : Table) (B : Book) → T.states ≤ 256 → (e : Refusal) → answer (loaded T B) (call_of Plan) ≢ refused e
  -- earlier answers do not depend on later lines, and later ones depend on earlier lines only by the calls that these make
  pub parts : (number : ℕ) (S : State) (earlier later : List (List ℕ))
      → replies number S (earlier ++ later) ≡ replies number S earlier ++ replies (number + length earlier) (run S (calls_in earlier)) later
