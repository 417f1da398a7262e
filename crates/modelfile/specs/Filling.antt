-- How lists are filled, record by record.
use Rattle.std.specs.Prelude.{◌≡◌, ◌≤◌, ℕ, suc, ◌+◌, ◌-◌, List, [], ◌∷◌, length, Ok, Err, Result, slice_set}
use Rattle.std.specs.Option.{unwrap_or}
use Rattle.sources.specs.declared.list.StateRow.{StateRow}
use Rattle.sources.specs.declared.list.ChoiceRow.{ChoiceRow}
use Rattle.modelfile.specs.Records.{Fields, of_header, of_state, of_choice}
use Rattle.modelfile.specs.File.{Model}
use Rattle.modelfile.specs.Lists.{reward_of, branches_of, state_row, choice_row, loaded_of, model_states, model_choices, model_branches}
use Rattle.modelfile.specs.declared.fault.FileFault.{FileFault}
use Rattle.modelfile.specs.declared.fill.Lists.{Lists}
use Rattle.modelfile.specs.declared.loaded.Loaded.{Loaded}

-- rows put into a list from a place on, as far as the list reaches
abbrev pub fill : {X : Type 0} → List X → ℕ → List X → List X
fill [] at list = list
fill (x ∷ xs) at list = fill xs (suc at) (slice_set list at x)

-- how many branches a record adds
abbrev pub size : ℕ → ℕ → Fields → ℕ
size W s (of_header h) = 0
size W s (of_state k) = 0
size W s (of_choice c) = length (branches_of W s c)

abbrev pub counts : ℕ → ℕ → ℕ → ℕ → Loaded
counts W s c b = record { denominator = W; states = s; choices = c; branches = b }

-- the counts after a record
abbrev pub counted : Loaded → Fields → Loaded
counted t (of_header h) = counts (unwrap_or h.denominator 1) t.states t.choices t.branches
counted t (of_state k) = counts t.denominator (t.states + 1) t.choices t.branches
counted t (of_choice c) =
    counts t.denominator t.states (t.choices + 1) (t.branches + length (branches_of t.denominator (t.states - 1) c))

-- the list of states after a record
abbrev pub with_state : Loaded → Fields → List StateRow → List StateRow
with_state t (of_header h) list = list
with_state t (of_state k) list = slice_set list t.states (state_row t.choices k)
with_state t (of_choice c) list = list

-- the list of choices after a record
abbrev pub with_choice : Loaded → Fields → List ChoiceRow → List ChoiceRow
with_choice t (of_header h) list = list
with_choice t (of_state k) list = list
with_choice t (of_choice c) list =
    slice_set list t.choices (choice_row (reward_of c) t.branches (length (branches_of t.denominator (t.states - 1) c)))

-- the list of branches after a record
abbrev pub with_branches : Loaded → Fields → List (ℕ × ℕ) → List (ℕ × ℕ)
with_branches t (of_header h) list = list
with_branches t (of_state k) list = list
with_branches t (of_choice c) list = fill (branches_of t.denominator (t.states - 1) c) t.branches list

-- the counts and the three lists
pub record Tally : Type 0 where
  pub counts : Loaded
  pub states : List StateRow
  pub choices : List ChoiceRow
  pub branches : List (ℕ × ℕ)

abbrev pub tally : Loaded → List StateRow → List ChoiceRow → List (ℕ × ℕ) → Tally
tally counts states choices branches = record { counts = counts; states = states; choices = choices; branches = branches }

-- a record put into the counts and the lists
abbrev pub placed : Tally → Fields → Tally
placed t f =
    tally (counted t.counts f) (with_state t.counts f t.states) (with_choice t.counts f t.choices) (with_branches t.counts f t.branches)

abbrev pub tally_of : Lists → Tally
tally_of l = tally l.used l.states.now l.choices.now l.branches.now

-- the same lists of the caller
abbrev pub SameLists : Lists → Lists → Type 0
SameLists k l =
    (l.states.ghost_name ≡ k.states.ghost_name) × (l.choices.ghost_name ≡ k.choices.ghost_name) × (l.branches.ghost_name ≡ k.branches.ghost_name)

-- no count is above a bound, and a record adds no more rows than that
abbrev pub AtMost : ℕ → Lists → Fields → Type 0
AtMost most l f =
    (l.used.states ≤ most) × (l.used.choices ≤ most) × (l.used.branches ≤ most) × (size 0 0 f ≤ most)

-- lists filled with what a file says, as far as they reach
abbrev pub filled : Result Model FileFault → List StateRow → List ChoiceRow → List (ℕ × ℕ) → Result Tally FileFault
filled (Ok m) states choices branches =
    Ok (tally (loaded_of m) (fill (model_states m) 0 states) (fill (model_choices m) 0 choices) (fill (model_branches m) 0 branches))
filled (Err e) states choices branches = Err e

-- what a call answered, with the lists after it
abbrev pub tallied : Result Loaded FileFault → List StateRow → List ChoiceRow → List (ℕ × ℕ) → Result Tally FileFault
tallied (Ok t) states choices branches = Ok (tally t states choices branches)
tallied (Err e) states choices branches = Err e
