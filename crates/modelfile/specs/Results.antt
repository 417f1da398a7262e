-- Reading one thing after another: the first fault decides.
use Rattle.std.specs.Prelude.{ℕ, Bool, true, false, List, Some, None, Ok, Err, Option, Result}
use Rattle.std.specs.Borrow.{Bor}
use Rattle.modelfile.specs.declared.fault.ByteFault.{ByteFault}
use Rattle.modelfile.specs.declared.fault.RecordFault.{RecordFault}
use Rattle.modelfile.specs.declared.fault.RecordFault.TheVariants.{Bytes}
use Rattle.modelfile.specs.declared.fault.FileFault.{FileFault}
use Rattle.modelfile.specs.declared.fault.FileFault.TheVariants.{Unread}

-- what is read, and the place just past it
abbrev pub Read : Type 0 → Type 0 → Type 0
Read A E = Result (A × ℕ) E

-- a result, and then what its value leads to
abbrev pub and_then : {A B E : Type 0} → Result A E → (A → Result B E) → Result B E
and_then (Ok a) next = next a
and_then (Err e) next = Err e

-- a fault of the bytes as a fault of the record
abbrev pub of_record : {A : Type 0} → Result A ByteFault → Result A RecordFault
of_record (Ok a) = Ok a
of_record (Err e) = Err (Bytes e)

-- a fault of the record as a fault of the file
abbrev pub of_file : {A : Type 0} → Result A RecordFault → Result A FileFault
of_file (Ok a) = Ok a
of_file (Err e) = Err (Unread e)

-- a part that stands only where its bit does
abbrev pub when_set : {A E : Type 0} → Bool → ℕ → Read A E → Read (Option A) E
when_set false p part = Ok (None, p)
when_set true p part = and_then part (λ v. Ok (Some v.0, v.1))

-- what a borrowed text holds
abbrev pub text_of : Option (Bor (List ℕ)) → Option (List ℕ)
text_of None = None
text_of (Some t) = Some t.now
