-- What it means that a line spells a command, and that reading finds just that command.
use Rattle.std.specs.Prelude.{◌≡◌, ℕ, ◌≤◌, true, ◌↔◌, List, [], ◌∷◌, length, Some, None}
use Rattle.std.specs.Str.Parse.{digits_value}
use Rattle.std.specs.Str.{all_ascii_digits}
use Rattle.console.specs.Lines.{line_of}
use Rattle.console.specs.Commands.{command_of}
use Rattle.console.specs.declared.command.Command.{Command}
use Rattle.console.specs.declared.command.Command.TheVariants.{Refine, Sweep, Quote, Plan, Close}

-- the letter of a command: R, S, Q, P or C
abbrev pub letter_of : Command → ℕ
letter_of (Refine component steps width) = 82
letter_of (Sweep count) = 83
letter_of (Quote state width) = 81
letter_of Plan = 80
letter_of Close = 67

-- the arguments of a command, in their order
abbrev pub arguments_of : Command → List ℕ
arguments_of (Refine component steps width) = component ∷ steps ∷ width ∷ []
arguments_of (Sweep count) = count ∷ []
arguments_of (Quote state width) = state ∷ width ∷ []
arguments_of Plan = []
arguments_of Close = []

-- the word has 1 to 18 digits and nothing else, and the number is their value
pub record Decimal (number : ℕ) (word : List ℕ) : Type 0 where
  pub some : 1 ≤ length word
  pub few : length word ≤ 18
  pub digits : all_ascii_digits word ≡ true
  pub worth : digits_value 10 word ≡ number

-- a word for each number
abbrev pub Decimals : List ℕ → List (List ℕ) → Type 0
Decimals [] [] = Unit {0}
Decimals [] (word ∷ words) = ⊥
Decimals (number ∷ numbers) [] = ⊥
Decimals (number ∷ numbers) (word ∷ words) = Decimal number word × Decimals numbers words

-- the line is the command's letter and then, for each argument, a blank and a decimal of it
pub record Spells (command : Command) (line : List ℕ) : Type 0 where
  pub words : List (List ℕ)
  pub decimals : Decimals (arguments_of command) words
  pub whole : line ≡ line_of (letter_of command ∷ []) words

-- a line reads as the command that it spells; it spells at most one, and reads as none if it spells none
pub record CommandLaw (line : List ℕ) : Type 0 where
  pub spelled : (command : Command) → (command_of line ≡ Some command) ↔ Spells command line
  pub single : (command other : Command) → Spells command line → Spells other line → command ≡ other
  pub refused : (command_of line ≡ None) ↔ ((command : Command) → Spells command line → ⊥)
