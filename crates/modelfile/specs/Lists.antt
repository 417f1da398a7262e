-- The three lists that a model gives, and what a caller's lists hold after the call.
use Rattle.std.specs.Prelude.{ℕ, suc, ◌+◌, cond, ◌&&◌, List, [], ◌∷◌, ◌++◌, map, length, drop, ℤ, pos, Ok, Err, Result, nat_le}
use Rattle.std.specs.Option.{unwrap_or}
use Rattle.sources.specs.declared.list.StateRow.{StateRow}
use Rattle.sources.specs.declared.list.ChoiceRow.{ChoiceRow}
use Rattle.modelfile.specs.Results.{and_then}
use Rattle.modelfile.specs.Records.{ChoiceFields}
use Rattle.modelfile.specs.File.{Model, read_file}
use Rattle.modelfile.specs.declared.fault.FileFault.{FileFault}
use Rattle.modelfile.specs.declared.fault.FileFault.TheVariants.{ShortList}
use Rattle.modelfile.specs.declared.loaded.Loaded.{Loaded}

-- a missing denominator is 1
abbrev pub denominator_of : Model → ℕ
denominator_of m = unwrap_or m.denominator 1

-- a missing reward is 0
abbrev pub reward_of : ChoiceFields → ℤ
reward_of c = unwrap_or c.reward (pos 0)

-- missing branches are one branch to the choice's own state s, with weight W
abbrev pub branches_of : ℕ → ℕ → ChoiceFields → List (ℕ × ℕ)
branches_of W s c = unwrap_or c.branches ((s, W) ∷ [])

-- the choices of state s, each with the number of that state
abbrev pub choices_of : ℕ → List ChoiceFields → List (ℕ × ChoiceFields)
choices_of s cs = map (λ c. (s, c)) cs

-- the choices of all states in order, each with the number of its state
abbrev pub all_choices : ℕ → List (List ChoiceFields) → List (ℕ × ChoiceFields)
all_choices s [] = []
all_choices s (cs ∷ ss) = choices_of s cs ++ all_choices (suc s) ss

abbrev pub state_row : ℕ → ℕ → StateRow
state_row first count = record { first = first; count = count }

abbrev pub choice_row : ℤ → ℕ → ℕ → ChoiceRow
choice_row reward first count = record { reward = reward; first = first; count = count }

-- each state's row: its choices follow those of the states before it
abbrev pub state_rows : ℕ → List (List ChoiceFields) → List StateRow
state_rows first [] = []
state_rows first (cs ∷ ss) = state_row first (length cs) ∷ state_rows (first + length cs) ss

-- each choice's row: its branches follow those of the choices before it
abbrev pub choice_rows : ℕ → ℕ → List (ℕ × ChoiceFields) → List ChoiceRow
choice_rows W first [] = []
choice_rows W first (c ∷ cs) =
    choice_row (reward_of c.1) first (length (branches_of W c.0 c.1))
    ∷ choice_rows W (first + length (branches_of W c.0 c.1)) cs

-- the branches of all choices in order
abbrev pub branch_rows : ℕ → List (ℕ × ChoiceFields) → List (ℕ × ℕ)
branch_rows W [] = []
branch_rows W (c ∷ cs) = branches_of W c.0 c.1 ++ branch_rows W cs

-- the lists of a whole model
abbrev pub model_states : Model → List StateRow
model_states m = state_rows 0 m.states

abbrev pub model_choices : Model → List ChoiceRow
model_choices m = choice_rows (denominator_of m) 0 (all_choices 0 m.states)

abbrev pub model_branches : Model → List (ℕ × ℕ)
model_branches m = branch_rows (denominator_of m) (all_choices 0 m.states)

-- the denominator and how many places of each list are used
abbrev pub loaded_of : Model → Loaded
loaded_of m = record {
  denominator = denominator_of m;
  states = length (model_states m);
  choices = length (model_choices m);
  branches = length (model_branches m);
}

-- what decides about a file and lists of these lengths: the file first, then whether each list is long enough
abbrev pub outcome : List ℕ → ℕ → ℕ → ℕ → Result Model FileFault
outcome file states choices branches =
    and_then (read_file file) (λ m.
    cond (nat_le (length (model_states m)) states && nat_le (length (model_choices m)) choices && nat_le (length (model_branches m)) branches)
    (Ok m)
    (Err ShortList))

-- a model as it is answered
abbrev pub answered : Result Model FileFault → Result Loaded FileFault
answered (Ok m) = Ok (loaded_of m)
answered (Err e) = Err e

-- a caller's list after the call: the rows stand at its front and the rest is as it was; a refusal alters nothing
abbrev pub after_call : {X : Type 0} → Result Model FileFault → (Model → List X) → List X → List X
after_call (Ok m) rows list = rows m ++ drop (length (rows m)) list
after_call (Err e) rows list = list
