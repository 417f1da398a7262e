-- An answer line reads back as its letter and its numbers.
use Rattle.std.proofs.Common.{◌≡◌, ℕ, suc, ◌≤◌, true, false, eqb, leb, List, [], ◌∷◌, ◌++◌, map, get_or, ℤ, pos, negsuc, neg_ℤ, decimal, sym, refl, ap, ◌∙◌, arith}
use Rattle.std.proofs.lemmas.Fmt.{digits_decimal, digits_value-decimal}
use Rattle.std.proofs.ByRecursion.{All-append, all-has}
use Rattle.std.proofs.lemmas.Bool.{and_parts, cond-false, leb-true, ne_eqb}
use Rattle.std.specs.Str.Parse.{digits_value}
use Rattle.std.specs.Char.{is_ascii_digit}
use Rattle.std.specs.Fmt.{signed_decimal}
use Rattle.std.specs.List.{ContainsAt as Has, AllByRecursion}
use Rattle.std.specs.Str.{all_ascii_digits}
use Rattle.console.specs.Lines.{up_to, line_of, answer_line, fields_of, number_in, Small, letters, LineLaw}
use Rattle.console.specs.Answers.{letter_and_numbers, letter, numbers, line_bytes, Sized, AnswerLaw}
use Rattle.console.specs.declared.answer.AnswerLine.{AnswerLine}
use Rattle.console.specs.declared.answer.AnswerLine.TheVariants.{Loaded, Refined, Swept, Quoted, Planned, Closed, Refused}
use Rattle.console.proofs.Fields.{spaced, line_spaced}
use Rattle.console.proofs.Figures.{own}

-- no blank among the bytes
abbrev Clear : List ℕ → Type 0
Clear bs = AllByRecursion (λ b. eqb b 32 ≡ false) bs

at_least : (b : ℕ) → is_ascii_digit b ≡ true → 48 ≤ b
at_least b h = leb-true 48 b (and_parts (leb 48 b) (leb b 57) h).0

clear_digits : (ds : List ℕ) → all_ascii_digits ds ≡ true → Clear ds
clear_digits [] h = tt
clear_digits (d ∷ ds) h =
    let p = and_parts (is_ascii_digit d) (all_ascii_digits ds) h in
    let l = at_least d p.0 in
    (ne_eqb d 32 (λ e. omega arith), clear_digits ds p.1)

clear_signed : (z : ℤ) → Small z → Clear (signed_decimal z)
clear_signed (pos n) h = clear_digits (decimal n) (digits_decimal own n h)
clear_signed (negsuc n) h = (refl, clear_digits (decimal (suc n)) (digits_decimal own (suc n) h))

clear_all : (zs : List ℤ) → AllByRecursion Small zs → AllByRecursion Clear (map signed_decimal zs)
clear_all [] h = tt
clear_all (z ∷ zs) h = (clear_signed z h.0, clear_all zs h.1)

-- a field ends at the next blank
word_end : (fields : List (List ℕ)) → up_to 32 (spaced fields) ≡ []
word_end [] = refl
word_end (f ∷ fs) = refl

word : (f : List ℕ) (fields : List (List ℕ)) → Clear f → up_to 32 (f ++ spaced fields) ≡ f
word [] fields h = word_end fields
word (b ∷ bs) fields h = cond-false (eqb b 32) [] (b ∷ up_to 32 (bs ++ spaced fields)) h.0 ∙ ap (λ xs. b ∷ xs) (word bs fields h.1)

-- and begins no field inside
past : (f rest : List ℕ) → Clear f → fields_of (f ++ rest) ≡ fields_of rest
past [] rest h = refl
past (b ∷ bs) rest h = cond-false (eqb b 32) (up_to 32 (bs ++ rest) ∷ fields_of (bs ++ rest)) (fields_of (bs ++ rest)) h.0 ∙ past bs rest h.1

fields_spaced : (fields : List (List ℕ)) → AllByRecursion Clear fields → fields_of (spaced fields) ≡ fields
fields_spaced [] h = refl
fields_spaced (f ∷ fs) h =
    ap (λ x. x ∷ fields_of (f ++ spaced fs)) (word f fs h.0) ∙ ap (λ xs. f ∷ xs) (past f (spaced fs) h.0 ∙ fields_spaced fs h.1)

number_digits : (ds : List ℕ) → all_ascii_digits ds ≡ true → number_in ds ≡ pos (digits_value 10 ds)
number_digits [] h = refl
number_digits (d ∷ ds) h =
    let l = at_least d (and_parts (is_ascii_digit d) (all_ascii_digits ds) h).0 in
    cond-false (eqb d 45) (neg_ℤ (pos (digits_value 10 ds))) (pos (digits_value 10 (d ∷ ds))) (ne_eqb d 45 (λ e. omega arith))

number_signed : (z : ℤ) → Small z → number_in (signed_decimal z) ≡ z
number_signed (pos n) h = number_digits (decimal n) (digits_decimal own n h) ∙ ap pos (digits_value-decimal own n h)
number_signed (negsuc n) h = ap (λ v. neg_ℤ (pos v)) (digits_value-decimal own (suc n) h)

numbers_signed : (zs : List ℤ) → AllByRecursion Small zs → map number_in (map signed_decimal zs) ≡ zs
numbers_signed [] h = refl
numbers_signed (z ∷ zs) h = ap (λ x. x ∷ map number_in (map signed_decimal zs)) (number_signed z h.0) ∙ ap (λ xs. z ∷ xs) (numbers_signed zs h.1)

-- a letter is neither a blank nor a line feed
no_blank : (letter : ℕ) → 65 ≤ letter → eqb letter 32 ≡ false
no_blank letter l = ne_eqb letter 32 (λ e. omega arith)

first_word : (letter : ℕ) (zs : List ℤ) → 65 ≤ letter → up_to 32 (answer_line letter zs) ≡ letter ∷ []
first_word letter zs l =
    ap (up_to 32) (line_spaced (letter ∷ []) (map signed_decimal zs))
    ∙ cond-false (eqb letter 32) [] (letter ∷ up_to 32 (spaced (map signed_decimal zs))) (no_blank letter l)
    ∙ ap (λ xs. letter ∷ xs) (word_end (map signed_decimal zs))

numbers_read : (letter : ℕ) (zs : List ℤ) → 65 ≤ letter → AllByRecursion Small zs → map number_in (fields_of (answer_line letter zs)) ≡ zs
numbers_read letter zs l small =
    ap (map number_in) (ap fields_of (line_spaced (letter ∷ []) (map signed_decimal zs))
    ∙ past (letter ∷ []) (spaced (map signed_decimal zs)) (no_blank letter l, tt)
    ∙ fields_spaced (map signed_decimal zs) (clear_all zs small))
    ∙ numbers_signed zs small

-- no line feed among the bytes
abbrev Unfed : List ℕ → Type 0
Unfed bs = AllByRecursion (λ b. b ≡ 10 → ⊥) bs

unfed_digits : (ds : List ℕ) → all_ascii_digits ds ≡ true → Unfed ds
unfed_digits [] h = tt
unfed_digits (d ∷ ds) h =
    let p = and_parts (is_ascii_digit d) (all_ascii_digits ds) h in
    let l = at_least d p.0 in
    ((λ e. omega arith), unfed_digits ds p.1)

unfed_signed : (z : ℤ) → Small z → Unfed (signed_decimal z)
unfed_signed (pos n) h = unfed_digits (decimal n) (digits_decimal own n h)
unfed_signed (negsuc n) h = ((λ e. omega arith), unfed_digits (decimal (suc n)) (digits_decimal own (suc n) h))

unfed_line : (start : List ℕ) (zs : List ℤ) → Unfed start → AllByRecursion Small zs → Unfed (line_of start (map signed_decimal zs))
unfed_line start [] u h = u
unfed_line start (z ∷ zs) u h =
    unfed_line (start ++ (32 ∷ signed_decimal z)) zs (All-append (λ b. b ≡ 10 → ⊥) start (32 ∷ signed_decimal z) u ((λ e. omega arith), unfed_signed z h.0)) h.1

-- Lines of an answer's letter

letter_capital : (letter : ℕ) → Has letters letter → 65 ≤ letter
letter_capital letter h = all-has (λ b. 65 ≤ b) letters letter (omega arith, (omega arith, (omega arith, (omega arith, (omega arith, (omega arith, (omega arith, tt))))))) h

line_single : (letter : ℕ) (zs : List ℤ) → Has letters letter → AllByRecursion Small zs → Unfed (answer_line letter zs)
line_single letter zs h small = let l = letter_capital letter h in unfed_line (letter ∷ []) zs ((λ e. omega arith), tt) small

line_told : (b d : ℕ) (ys zs : List ℤ) → Has letters b → Has letters d → AllByRecursion Small ys → AllByRecursion Small zs
    → answer_line b ys ≡ answer_line d zs → (b ≡ d) × (ys ≡ zs)
line_told b d ys zs hb hd sy sz e =
    let front : b ∷ [] ≡ d ∷ [] = sym (first_word b ys (letter_capital b hb)) ∙ ap (up_to 32) e ∙ first_word d zs (letter_capital d hd) in (
      ap (λ xs. get_or xs 0 0) front,
      sym (numbers_read b ys (letter_capital b hb) sy) ∙ ap (λ bs. map number_in (fields_of bs)) e ∙ numbers_read d zs (letter_capital d hd) sz,
    )

line_law : LineLaw
line_law = record {
  single = line_single;
  first = λ letter zs h. first_word letter zs (letter_capital letter h);
  fields = λ letter zs h small. numbers_read letter zs (letter_capital letter h) small;
  told = line_told;
}

-- Answers

capital : (a : AnswerLine) → 65 ≤ letter a
capital (Loaded states components) = omega arith
capital (Refined steps lo hi) = omega arith
capital (Swept sweeps) = omega arith
capital (Quoted lower upper mark) = omega arith
capital (Planned choices) = omega arith
capital Closed = omega arith
capital (Refused number places) = omega arith

single : (a : AnswerLine) → Sized a → Unfed (line_bytes a)
single a small = let l = capital a in unfed_line (letter a ∷ []) (numbers a) ((λ e. omega arith), tt) small

first : (a : AnswerLine) → up_to 32 (line_bytes a) ≡ letter a ∷ []
first a = first_word (letter a) (numbers a) (capital a)

fields : (a : AnswerLine) → Sized a → map number_in (fields_of (line_bytes a)) ≡ numbers a
fields a small = numbers_read (letter a) (numbers a) (capital a) small

told : (a b : AnswerLine) → Sized a → Sized b → line_bytes a ≡ line_bytes b → letter_and_numbers a ≡ letter_and_numbers b
told a b sa sb e =
    let front : letter a ∷ [] ≡ letter b ∷ [] = sym (first a) ∙ ap (up_to 32) e ∙ first b in
    let same : letter a ≡ letter b = ap (λ xs. get_or xs 0 0) front in
    let all : numbers a ≡ numbers b = sym (fields a sa) ∙ ap (λ bs. map number_in (fields_of bs)) e ∙ fields b sb in
    λ i. (same i, all i)

pub answer_law : AnswerLaw
answer_law = record { single = single; first = first; fields = fields; told = told; lines = line_law }
