-- The reader's place in a file, and what each call hands out.
use Rattle.std.specs.Prelude.{ℕ, ◌-◌, Bool, true, false, cond, List, length, Some, None, Ok, Err, Option, Result, nat_le, nat_lt}
use Rattle.std.specs.Option.{option_map}
use Rattle.modelfile.specs.Results.{and_then, of_file}
use Rattle.modelfile.specs.Records.{Fields, of_header, of_state, of_choice, header, state, choice, fields_of}
use Rattle.modelfile.specs.declared.fault.FileFault.{FileFault}
use Rattle.modelfile.specs.declared.fault.FileFault.TheVariants.{Trailing, TooLong}
use Rattle.modelfile.specs.declared.record.Record.{Record}
use Rattle.modelfile.specs.declared.reader.Due.{Due}
use Rattle.modelfile.specs.declared.reader.Due.TheVariants.{Header, Rows}
use Rattle.modelfile.specs.declared.reader.Reader.{Reader}

-- where the reader stands: whether the header was read, the next byte,
-- and how many states, and choices of the present state, are still to come
pub record Cursor : Type 0 where
  pub begun : Bool
  pub at : ℕ
  pub states : ℕ
  pub choices : ℕ

abbrev pub standing : Bool → ℕ → ℕ → ℕ → Cursor
standing begun at states choices = record { begun = begun; at = at; states = states; choices = choices }

-- a new reader; a file of more than 65,536 bytes is refused
abbrev pub opened : List ℕ → Result Cursor FileFault
opened file = cond (nat_le (length file) 65536) (Ok (standing false 0 0 0)) (Err TooLong)

-- behind the last state
abbrev pub last_step : List ℕ → Cursor → Result (Option Fields × Cursor) FileFault
last_step file c = cond (nat_lt c.at (length file)) (Err (Trailing c.at)) (Ok (None, c))

-- the header first, then a choice where one is to come, else a state, else the end
abbrev pub step : List ℕ → Cursor → Result (Option Fields × Cursor) FileFault
step file c =
    cond c.begun
    (cond (nat_lt 0 c.choices)
    (and_then (of_file (choice file c.at)) (λ v.
    Ok (Some (of_choice v.0), standing true v.1 c.states (c.choices - 1))))
    (cond (nat_lt 0 c.states)
    (and_then (of_file (state file c.at)) (λ v.
    Ok (Some (of_state v.0), standing true v.1 (c.states - 1) v.0)))
    (last_step file c)))
    (and_then (of_file (header file c.at)) (λ v.
    Ok (Some (of_header v.0), standing true v.1 v.0.states 0)))

-- where a reader stands that has its next byte at a place
abbrev pub due_at : Due → ℕ → Cursor
due_at Header at = standing false at 0 0
due_at (Rows choices states) at = standing true at states choices

abbrev pub cursor_of : Reader → Cursor
cursor_of r = due_at r.due r.cursor.at

-- a new reader's place
abbrev pub new_cursor : Result Reader FileFault → Result Cursor FileFault
new_cursor (Ok r) = Ok (cursor_of r)
new_cursor (Err e) = Err e

-- what a call handed out, with the reader's place after it
abbrev pub handed : Result (Option Record) FileFault → Reader → Result (Option Fields × Cursor) FileFault
handed (Ok o) r = Ok (option_map fields_of o, cursor_of r)
handed (Err e) r = Err e
