-- A line of text: a letter and its fields, each after a blank; and the bytes of an answer.
use Rattle.std.specs.Prelude.{◌≡◌, ℕ, suc, ◌^◌, ◌<◌, cond, List, [], ◌∷◌, ◌++◌, map, ℤ, pos, negsuc, neg_ℤ, ◌==◌, ◌≢◌}
use Rattle.std.specs.Str.Parse.{digits_value}
use Rattle.std.specs.Fmt.{signed_decimal}
use Rattle.std.specs.List.{ContainsAt as Has, AllByRecursion}

-- the bytes before the first `stop`, or all of them
abbrev pub up_to : ℕ → List ℕ → List ℕ
up_to stop [] = []
up_to stop (b ∷ bs) = cond (b == stop) [] (b ∷ up_to stop bs)

-- what stands there, and then each field after a blank
abbrev pub line_of : List ℕ → List (List ℕ) → List ℕ
line_of start [] = start
line_of start (field ∷ fields) = line_of (start ++ (32 ∷ field)) fields

-- an answer: a letter, then each number in decimal after a blank
abbrev pub answer_line : ℕ → List ℤ → List ℕ
answer_line letter numbers = line_of (letter ∷ []) (map signed_decimal numbers)

-- the fields of a line: after each blank, the bytes up to the next one
abbrev pub fields_of : List ℕ → List (List ℕ)
fields_of [] = []
fields_of (b ∷ bs) = cond (b == 32) (up_to 32 bs ∷ fields_of bs) (fields_of bs)

-- the number that a field writes: digits, after a minus if it is negative
abbrev pub number_in : List ℕ → ℤ
number_in [] = pos 0
number_in (b ∷ bs) = cond (b == 45) (neg_ℤ (pos (digits_value 10 bs))) (pos (digits_value 10 (b ∷ bs)))

-- at most 64 bits and a sign
abbrev pub Small : ℤ → Type 0
Small (pos n) = n < 2 ^ 64
Small (negsuc n) = suc n < 2 ^ 64

-- the letters that begin an answer: L, R, S, Q, P, C and E
abbrev pub letters : List ℕ
letters = 76 ∷ 82 ∷ 83 ∷ 81 ∷ 80 ∷ 67 ∷ 69 ∷ []

-- such a letter with any numbers is one line, it reads back as its letter and its numbers, and so no two of them have the same bytes
pub record LineLaw : Type 0 where
  pub single : (letter : ℕ) (numbers : List ℤ) → Has letters letter → AllByRecursion Small numbers → AllByRecursion (λ b. b ≢ 10) (answer_line letter numbers)
  pub first : (letter : ℕ) (numbers : List ℤ) → Has letters letter → up_to 32 (answer_line letter numbers) ≡ letter ∷ []
  pub fields : (letter : ℕ) (numbers : List ℤ) → Has letters letter → AllByRecursion Small numbers → map number_in (fields_of (answer_line letter numbers)) ≡ numbers
  pub told : (letter other : ℕ) (numbers others : List ℤ) → Has letters letter → Has letters other → AllByRecursion Small numbers → AllByRecursion Small others
      → answer_line letter numbers ≡ answer_line other others → (letter ≡ other) × (numbers ≡ others)
