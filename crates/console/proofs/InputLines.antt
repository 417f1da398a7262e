-- The lines of an input.
use Rattle.std.proofs.Common.{◌≡◌, ℕ, suc, ◌+◌, ◌-◌, ◌<◌, ◌≤◌, Bool, true, false, cond, eqb, ltb, List, [], ◌∷◌, ◌++◌, length, take, drop, Some, None, sym, refl, ap, ◌∙◌, inl, inr, arith, length-drop}
use Rattle.std.proofs.lemmas.List.{drop_all, drop-drop}
use Rattle.std.proofs.lemmas.Bool.{cases_lt, cond-true, cond-false, cond_both, eqb-true, eqb-false, lt-ltb, le-ltb, ltb-false}
use Rattle.std.specs.List.{flat_map, AllByRecursion}
use Rattle.console.specs.Lines.{up_to}
use Rattle.console.specs.Inputs.{line_end, next_line, extended, lines_of, missing, lines_by, LinesLaw}

-- one byte more: what it means for the first line
grown : (t : Bool) (b : ℕ) (bs : List ℕ) → extended b (lines_of bs) ≡ (b ∷ up_to 10 bs) ∷ lines_of (drop (suc (length (up_to 10 bs))) bs)
    → cond t ([] ∷ lines_of bs) (extended b (lines_of bs)) ≡ cond t [] (b ∷ up_to 10 bs) ∷ lines_of (drop (length (cond t [] (b ∷ up_to 10 bs))) bs)
grown true b bs e = refl
grown false b bs e = e

-- the first line, and the lines after its line feed
first_line : (b : ℕ) (bs : List ℕ) → lines_of (b ∷ bs) ≡ up_to 10 (b ∷ bs) ∷ lines_of (drop (suc (length (up_to 10 (b ∷ bs)))) (b ∷ bs))
first_line b [] = grown (eqb b 10) b [] refl
first_line b (c ∷ cs) = grown (eqb b 10) b (c ∷ cs) (ap (extended b) (first_line c cs))

lines_step : (rest : List ℕ) → 0 < length rest → lines_of rest ≡ up_to 10 rest ∷ lines_of (drop (suc (length (up_to 10 rest))) rest)
lines_step [] h = absurd (omega arith)
lines_step (b ∷ bs) h = first_line b bs

take_up_to : (stop : ℕ) (bs : List ℕ) → take (length (up_to stop bs)) bs ≡ up_to stop bs
take_up_to stop [] = refl
take_up_to stop (b ∷ bs) =
    cond_both (eqb b stop) [] (b ∷ up_to stop bs) (λ front. take (length front) (b ∷ bs) ≡ front) (λ _. refl) (λ _. ap (λ x. b ∷ x) (take_up_to stop bs))

-- each line with its line feed
abbrev ended : List (List ℕ) → List ℕ
ended lines = flat_map (λ line. line ++ (10 ∷ [])) lines

last : (t : Bool) (b : ℕ) → (t ≡ true → b ≡ 10) → ended (cond t ([] ∷ []) ((b ∷ []) ∷ [])) ≡ b ∷ cond t [] (10 ∷ [])
last true b h = ap (λ x. x ∷ []) (sym (h refl))
last false b h = refl

longer : (t : Bool) (b : ℕ) (lines : List (List ℕ)) (all : List ℕ) → (t ≡ true → b ≡ 10) → ended lines ≡ all → ended (extended b lines) ≡ b ∷ ended lines
    → ended (cond t ([] ∷ lines) (extended b lines)) ≡ b ∷ all
longer true b lines all h e g = ap (λ x. x ∷ ended lines) (sym (h refl)) ∙ ap (λ xs. b ∷ xs) e
longer false b lines all h e g = g ∙ ap (λ xs. b ∷ xs) e

ended_extended : (b : ℕ) (lines first : _) (others : List (List ℕ)) → lines ≡ first ∷ others → ended (extended b lines) ≡ b ∷ ended lines
ended_extended b lines first others e = ap (λ ls. ended (extended b ls)) e ∙ ap (λ ls. b ∷ ended ls) (sym e)

whole : (input : List ℕ) → ended (lines_of input) ≡ input ++ missing input
whole [] = refl
whole (b ∷ []) = last (eqb b 10) b (eqb-true b 10)
whole (b ∷ c ∷ bs) =
    longer (eqb b 10) b (lines_of (c ∷ bs)) ((c ∷ bs) ++ missing (c ∷ bs)) (eqb-true b 10) (whole (c ∷ bs)) (ended_extended b (lines_of (c ∷ bs)) _ _ (first_line c bs))

-- no line feed in any line
abbrev Unfed : List (List ℕ) → Type 0
Unfed lines = AllByRecursion (λ line. AllByRecursion (λ b. b ≡ 10 → ⊥) line) lines

unfed_extended : (b : ℕ) (lines : List (List ℕ)) → (b ≡ 10 → ⊥) → Unfed lines → Unfed (extended b lines)
unfed_extended b [] h u = ((h, tt), tt)
unfed_extended b (l ∷ ls) h u = ((h, u.0), u.1)

apart : (input : List ℕ) → Unfed (lines_of input)
apart [] = tt
apart (b ∷ bs) =
    cond_both (eqb b 10) ([] ∷ lines_of bs) (extended b (lines_of bs)) Unfed (λ _. (tt, apart bs)) (λ f. unfed_extended b (lines_of bs) (eqb-false b 10 f) (apart bs))

-- the line found from a place on, and then the lines from the next place on
within_input : (input : List ℕ) (from : ℕ) → from < length input → lines_of (drop from input) ≡ lines_by input from (next_line input from)
within_input input from l =
    let rest : List ℕ = drop from input in
    let line : List ℕ = up_to 10 rest in
    let end : ℕ = line_end input from in
    let some : next_line input from ≡ Some (end, cond (ltb end (length input)) (end + 1) end) =
    cond-true (ltb from (length input)) (Some (end, cond (ltb end (length input)) (end + 1) end)) None (lt-ltb from (length input) l) in
    let size : end - from ≡ length line = omega arith in
    let front : take (end - from) rest ≡ line = ap (λ k. take k rest) size ∙ take_up_to 10 rest in
    let after : drop (suc (length line)) rest ≡ drop (end + 1) input =
    drop-drop (suc (length line)) from input ∙ (let same : from + suc (length line) ≡ end + 1 = omega arith in ap (λ k. drop k input) same) in
    let next : drop (cond (ltb end (length input)) (end + 1) end) input ≡ drop (end + 1) input =
    cond_both (ltb end (length input)) (end + 1) end (λ k. drop k input ≡ drop (end + 1) input) (λ _. refl)
    (λ f. (let past = ltb-false end (length input) f in drop_all end input past ∙ sym (drop_all (end + 1) input (omega arith)))) in
    lines_step rest (omega (arith, length-drop from input))
    ∙ ap (λ xs. line ∷ lines_of xs) (after ∙ sym next)
    ∙ ap (λ x. x ∷ lines_of (drop (cond (ltb end (length input)) (end + 1) end) input)) (sym front)
    ∙ ap (lines_by input from) (sym some)

past_input : (input : List ℕ) (from : ℕ) → length input ≤ from → lines_of (drop from input) ≡ lines_by input from (next_line input from)
past_input input from l =
    ap lines_of (drop_all from input l) ∙ ap (lines_by input from) (sym (cond-false (ltb from (length input)) _ None (le-ltb from (length input) l)))

walk : (input : List ℕ) (from : ℕ) → lines_of (drop from input) ≡ lines_by input from (next_line input from)
walk input from = elim (cases_lt from (length input)) [ inl l ↦ within_input input from l | inr l ↦ past_input input from l ]

pub lines_law : (input : List ℕ) → LinesLaw input
lines_law input = record { whole = whole input; apart = apart input; walk = walk input }
