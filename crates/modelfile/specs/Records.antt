-- The records of a file: its header, a state, a choice. What is missing is None.
use Rattle.std.specs.Prelude.{◌≡◌, ℕ, ◌-◌, ◌^◌, ◌≤◌, Bool, cond, not, List, ℤ, Ok, Err, Option, ◌==◌, bit_and, nat_le}
use Rattle.std.specs.Option.{option_map}
use Rattle.modelfile.specs.Results.{Read, and_then, of_record, when_set, text_of}
use Rattle.modelfile.specs.Bytes.{number, signed, text, branches, branches_in}
use Rattle.modelfile.specs.declared.fault.RecordFault.{RecordFault}
use Rattle.modelfile.specs.declared.fault.RecordFault.TheVariants.{UnknownBit}
use Rattle.modelfile.specs.declared.record.Header.{Header}
use Rattle.modelfile.specs.declared.record.Choice.{Choice}
use Rattle.modelfile.specs.declared.record.Record.{Record}
use Rattle.modelfile.specs.declared.record.Record.TheVariants.{Header as AHeader, State as AState, Choice as AChoice}

pub record HeaderFields : Type 0 where
  pub denominator : Option ℕ
  pub name : Option (List ℕ)
  -- how many states follow
  pub states : ℕ

pub record ChoiceFields : Type 0 where
  pub reward : Option ℤ
  -- a branch is its successor and its weight
  pub branches : Option (List (ℕ × ℕ))
  pub label : Option (List ℕ)

-- a record of the file; a state says how many choices follow
pub data Fields : Type 0 where
  of_header : HeaderFields → Fields
  of_state : ℕ → Fields
  of_choice : ChoiceFields → Fields

-- whether a bit map has a bit, 1 for bit 0, 2 for bit 1, 4 for bit 2
abbrev pub has_bit : ℕ → ℕ → Bool
has_bit bit map = not (bit_and map bit == 0)

-- a number whose bits are the lowest ones
abbrev pub LowestBits : ℕ → Type 0
LowestBits every = (k : ℕ) × (k ≤ 32) × (every ≡ 2 ^ k - 1)

-- a bit map of which only the bits of `every` may be set, which are the lowest
abbrev pub bit_map : ℕ → List ℕ → ℕ → Read ℕ RecordFault
bit_map every file p =
    and_then (of_record (number 1 file p)) (λ m. cond (nat_le m.0 every) (Ok m) (Err (UnknownBit p)))

-- a bit map of two bits, the fields that it names, and the number of states
abbrev pub header : List ℕ → ℕ → Read HeaderFields RecordFault
header file p =
    and_then (bit_map 3 file p) (λ m.
    and_then (of_record (when_set (has_bit 1 m.0) m.1 (number 4 file m.1))) (λ d.
    and_then (of_record (when_set (has_bit 2 m.0) d.1 (text file d.1))) (λ t.
    and_then (of_record (number 2 file t.1)) (λ n.
    Ok (record { denominator = d.0; name = t.0; states = n.0 }, n.1)))))

-- the number of a state's choices
abbrev pub state : List ℕ → ℕ → Read ℕ RecordFault
state file p = of_record (number 1 file p)

-- a bit map of three bits and the fields that it names
abbrev pub choice : List ℕ → ℕ → Read ChoiceFields RecordFault
choice file p =
    and_then (bit_map 7 file p) (λ m.
    and_then (of_record (when_set (has_bit 1 m.0) m.1 (signed file m.1))) (λ r.
    and_then (of_record (when_set (has_bit 2 m.0) r.1 (branches file r.1))) (λ b.
    and_then (of_record (when_set (has_bit 4 m.0) b.1 (text file b.1))) (λ t.
    Ok (record { reward = r.0; branches = b.0; label = t.0 }, t.1)))))

-- what a record that the reader hands out holds, with its texts and branches read where they stand in the file
abbrev pub header_of : Header → HeaderFields
header_of h = record { denominator = h.denominator; name = text_of h.name; states = h.states }

abbrev pub choice_of : Choice → ChoiceFields
choice_of c = record { reward = c.reward; branches = option_map branches_in c.branches; label = text_of c.label }

abbrev pub fields_of : Record → Fields
fields_of (AHeader h) = of_header (header_of h)
fields_of (AState s) = of_state s.choices
fields_of (AChoice c) = of_choice (choice_of c)
