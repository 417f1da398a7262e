-- A cursor that reads on: the file stays, and it moves just past what it read.
use Rattle.std.specs.Prelude.{◌≡◌, ℕ, List, Ok, Err, Result}
use Rattle.modelfile.specs.Results.{Read}
use Rattle.modelfile.specs.declared.cursor.ByteCursor.{ByteCursor}

-- what was answered, seen by f, and the place just past it
abbrev pub moved : {A B E : Type 0} → (A → B) → Result A E → ℕ → Read B E
moved f (Ok v) at = Ok (f v, at)
moved f (Err e) at = Err e

-- a cursor's call answered what is read at its place, seen by f
abbrev pub ReadsOn : {A B E : Type 0} → (A → B) → (List ℕ → ℕ → Read B E) → ByteCursor → ByteCursor → Result A E → Type 0
ReadsOn f read before after answer =
    (after.file.now ≡ before.file.now) × (moved f answer after.at ≡ read before.file.now before.at)
