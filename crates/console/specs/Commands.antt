-- The command that a line spells.
use Rattle.std.specs.Prelude.{ℕ, cond, ◌&&◌, List, [], ◌∷◌, length, drop, Some, None, Option, ◌==◌, nat_le, take_while, option_and_then}
use Rattle.std.specs.List.{prefix_len}
use Rattle.std.specs.Option.{option_map}
use Rattle.std.specs.Str.Parse.{digits_value}
use Rattle.std.specs.Char.{is_ascii_digit}
use Rattle.console.specs.declared.command.Command.{Command}
use Rattle.console.specs.declared.command.Command.TheVariants.{Refine, Sweep, Quote, Plan, Close}

-- the number that 1 to 18 digits write
abbrev pub number_of : List ℕ → Option ℕ
number_of digits = cond (nat_le 1 (length digits) && nat_le (length digits) 18) (Some (digits_value 10 digits)) None

-- the number that the digits at the front write, and what follows them
abbrev pub front_number : List ℕ → Option (ℕ × List ℕ)
front_number text = option_map (λ number. (number, drop (prefix_len is_ascii_digit text) text)) (number_of (take_while is_ascii_digit text))

-- the number after the blank at the front, and what follows its digits
abbrev pub argument_in : List ℕ → Option (ℕ × List ℕ)
argument_in [] = None
argument_in (b ∷ bs) = cond (b == 32) (front_number bs) None

-- goes on with the argument at the front and what follows it, if there is one
abbrev pub with_argument : List ℕ → (ℕ → List ℕ → Option Command) → Option Command
with_argument text next = option_and_then (λ a. next a.0 a.1) (argument_in text)

-- the command, if nothing follows
abbrev pub ended_in : List ℕ → Command → Option Command
ended_in [] command = Some command
ended_in (b ∷ bs) command = None

-- three arguments: component, steps and width
abbrev pub refine_in : List ℕ → Option Command
refine_in text =
    with_argument text (λ component after. with_argument after (λ steps later. with_argument later (λ width rest. ended_in rest (Refine component steps width))))

-- one argument: how many sweeps
abbrev pub sweep_in : List ℕ → Option Command
sweep_in text = with_argument text (λ count rest. ended_in rest (Sweep count))

-- two arguments: state and width
abbrev pub quote_in : List ℕ → Option Command
quote_in text = with_argument text (λ state after. with_argument after (λ width rest. ended_in rest (Quote state width)))

-- the command of a line with the letter R, S, Q, P or C, and what follows the letter
abbrev pub command_by : ℕ → List ℕ → Option Command
command_by letter text =
    cond (letter == 82) (refine_in text)
    (cond (letter == 83) (sweep_in text)
    (cond (letter == 81) (quote_in text)
    (cond (letter == 80) (ended_in text Plan)
    (cond (letter == 67) (ended_in text Close) None))))

-- the command that a line spells, if it spells one
abbrev pub command_of : List ℕ → Option Command
command_of [] = None
command_of (letter ∷ text) = command_by letter text
