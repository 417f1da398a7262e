-- The lines of an input.
use Rattle.std.specs.Prelude.{◌≡◌, ℕ, ◌+◌, ◌-◌, ◌<◌, ◌≤◌, cond, List, [], ◌∷◌, ◌++◌, length, take, drop, Some, None, Option, MatchOption, ◌==◌, ◌≢◌, nat_lt}
use Rattle.std.specs.List.{flat_map, AllByRecursion}
use Rattle.console.specs.Lines.{up_to}

-- where the line ends that begins at `from`: at its line feed, or at the end of the input
abbrev pub line_end : List ℕ → ℕ → ℕ
line_end input from = from + length (up_to 10 (drop from input))

-- where the line that begins at `from` ends, and where the next one begins; none at the end of the input
abbrev pub next_line : List ℕ → ℕ → Option (ℕ × ℕ)
next_line input from =
    cond (nat_lt from (length input))
    (Some (line_end input from, cond (nat_lt (line_end input from) (length input)) (line_end input from + 1) (line_end input from)))
    None

-- the byte in front of the first line
abbrev pub extended : ℕ → List (List ℕ) → List (List ℕ)
extended b [] = (b ∷ []) ∷ []
extended b (line ∷ lines) = (b ∷ line) ∷ lines

-- the lines of an input without their line feeds; the end at a line's start makes no line
abbrev pub lines_of : List ℕ → List (List ℕ)
lines_of [] = []
lines_of (b ∷ bs) = cond (b == 10) ([] ∷ lines_of bs) (extended b (lines_of bs))

-- the line feed that the last line lacks, if it lacks one
abbrev pub missing : List ℕ → List ℕ
missing [] = []
missing (b ∷ []) = cond (b == 10) [] (10 ∷ [])
missing (b ∷ c ∷ bs) = missing (c ∷ bs)

-- the line that was found from `from` on, and then the lines from the next place on
abbrev pub lines_by : List ℕ → ℕ → Option (ℕ × ℕ) → List (List ℕ)
lines_by input from None = []
lines_by input from (Some found) = take (found.0 - from) (drop from input) ∷ lines_of (drop found.1 input)

-- the lines, each with its line feed, are the input; none holds a line feed; and next after next finds them all
pub record LinesLaw (input : List ℕ) : Type 0 where
  pub whole : flat_map (λ line. line ++ (10 ∷ [])) (lines_of input) ≡ input ++ missing input
  pub apart : AllByRecursion (λ line. AllByRecursion (λ b. b ≢ 10) line) (lines_of input)
  pub walk : (from : ℕ) → lines_of (drop from input) ≡ lines_by input from (next_line input from)

-- a line that was found lies in the input, and the next one begins further on
abbrev pub Within : List ℕ → ℕ → Option (ℕ × ℕ) → Type 0
Within input from found = MatchOption found (length input ≤ from) (λ p. (from ≤ p.0) × (p.0 ≤ p.1) × (from < p.1) × (p.1 ≤ length input))
