-- What each answer writes.
use Rattle.std.specs.Prelude.{◌≡◌, ℕ, List, [], ◌∷◌, map, ℤ, pos, ◌≢◌, if◌then◌else◌}
use Rattle.std.specs.List.{AllByRecursion}
use Rattle.console.specs.Lines.{up_to, answer_line, fields_of, number_in, Small, LineLaw}
use Rattle.console.specs.declared.answer.AnswerLine.{AnswerLine}
use Rattle.console.specs.declared.answer.AnswerLine.TheVariants.{Loaded, Refined, Swept, Quoted, Planned, Closed, Refused}
use Rattle.console.specs.declared.answer.Places.{Places}
use Rattle.console.specs.declared.answer.Places.TheVariants.{Nowhere, At, InTable}

-- the places of a refusal, in their order
abbrev pub places_of : Places → List ℕ
places_of Nowhere = []
places_of (At place) = place ∷ []
places_of (InTable state choice branch) = state ∷ choice ∷ branch ∷ []

-- the letter of an answer, and its numbers
abbrev pub letter_and_numbers : AnswerLine → ℕ × List ℤ
letter_and_numbers (Loaded states components) = (76, pos states ∷ pos components ∷ [])
letter_and_numbers (Refined steps lo hi) = (82, pos steps ∷ lo ∷ hi ∷ [])
letter_and_numbers (Swept sweeps) = (83, pos sweeps ∷ [])
letter_and_numbers (Quoted lower upper mark) = (81, lower ∷ upper ∷ pos (if mark then 1 else 0) ∷ [])
letter_and_numbers (Planned choices) = (80, map pos choices.now)
letter_and_numbers Closed = (67, [])
letter_and_numbers (Refused number places) = (69, pos number ∷ map pos (places_of places))

abbrev pub letter : AnswerLine → ℕ
letter a = (letter_and_numbers a).0

abbrev pub numbers : AnswerLine → List ℤ
numbers a = (letter_and_numbers a).1

-- the bytes of an answer
abbrev pub line_bytes : AnswerLine → List ℕ
line_bytes a = answer_line (letter a) (numbers a)

-- its numbers have at most 64 bits and a sign, as all numbers of a program's answers do
abbrev pub Sized : AnswerLine → Type 0
Sized a = AllByRecursion Small (numbers a)

-- an answer is one line, it reads back as its letter and its numbers, and so answers with the same bytes have the same letter and numbers
pub record AnswerLaw : Type 0 where
  pub single : (a : AnswerLine) → Sized a → AllByRecursion (λ b. b ≢ 10) (line_bytes a)
  pub first : (a : AnswerLine) → up_to 32 (line_bytes a) ≡ letter a ∷ []
  pub fields : (a : AnswerLine) → Sized a → map number_in (fields_of (line_bytes a)) ≡ numbers a
  pub told : (a b : AnswerLine) → Sized a → Sized b → line_bytes a ≡ line_bytes b → letter_and_numbers a ≡ letter_and_numbers b
  -- and so does every line of an answer's letter, whatever numbers follow it
  pub lines : LineLaw
