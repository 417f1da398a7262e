-- A whole file: a header, then the states, each with its choices, and nothing after the last.
use Rattle.std.specs.Prelude.{ℕ, zero, suc, cond, List, [], ◌∷◌, length, Ok, Err, Option, Result, nat_le, nat_lt}
use Rattle.modelfile.specs.Results.{Read, and_then, of_file}
use Rattle.modelfile.specs.Records.{HeaderFields, ChoiceFields, header, state, choice}
use Rattle.modelfile.specs.declared.fault.RecordFault.{RecordFault}
use Rattle.modelfile.specs.declared.fault.FileFault.{FileFault}
use Rattle.modelfile.specs.declared.fault.FileFault.TheVariants.{Trailing, TooLong}

-- what a file says: a state is the list of its choices
pub record Model : Type 0 where
  pub denominator : Option ℕ
  pub name : Option (List ℕ)
  pub states : List (List ChoiceFields)

-- k choices, one after the other
abbrev pub choice_run : ℕ → List ℕ → ℕ → Read (List ChoiceFields) RecordFault
choice_run zero file p = Ok ([], p)
choice_run (suc k) file p =
    and_then (choice file p) (λ c. and_then (choice_run k file c.1) (λ cs. Ok (c.0 ∷ cs.0, cs.1)))

-- n states, one after the other, each with as many choices as it says
abbrev pub state_run : ℕ → List ℕ → ℕ → Read (List (List ChoiceFields)) RecordFault
state_run zero file p = Ok ([], p)
state_run (suc n) file p =
    and_then (state file p) (λ k.
    and_then (choice_run k.0 file k.1) (λ cs.
    and_then (state_run n file cs.1) (λ ss. Ok (cs.0 ∷ ss.0, ss.1))))

-- nothing follows the last state
abbrev pub at_end : {A : Type 0} → List ℕ → A × ℕ → Result A FileFault
at_end file v = cond (nat_lt v.1 (length file)) (Err (Trailing v.1)) (Ok v.0)

-- the states behind a header, and the end of the file
abbrev pub body : List ℕ → HeaderFields × ℕ → Result Model FileFault
body file h =
    and_then (and_then (of_file (state_run h.0.states file h.1)) (at_end file)) (λ ss.
    Ok (record { denominator = h.0.denominator; name = h.0.name; states = ss }))

-- what a file says, or why it is refused
abbrev pub read_file : List ℕ → Result Model FileFault
read_file file = cond (nat_le (length file) 65536) (and_then (of_file (header file 0)) (body file)) (Err TooLong)
