-- Fields that are written one after the other.
use Rattle.std.proofs.Common.{◌≡◌, ℕ, ◌+◌, ◌<◌, List, [], ◌∷◌, ◌++◌, map, length, get_or, take, pos, decimal, sym, refl, ap, ◌∙◌, append_assoc}
use Rattle.std.proofs.lemmas.List.{append-nil, map-append, take_more}
use Rattle.std.specs.Fmt.{signed_decimal}
use Rattle.console.specs.Lines.{line_of, answer_line}

-- each field after a blank
abbrev pub spaced : List (List ℕ) → List ℕ
spaced [] = []
spaced (field ∷ fields) = 32 ∷ (field ++ spaced fields)

pub line_spaced : (start : List ℕ) (fields : List (List ℕ)) → line_of start fields ≡ start ++ spaced fields
line_spaced start [] = sym (append-nil start)
line_spaced start (f ∷ fs) = line_spaced (start ++ (32 ∷ f)) fs ∙ append_assoc start (32 ∷ f) (spaced fs)

-- one more field at the end
line_push : (start : List ℕ) (fields : List (List ℕ)) (field : List ℕ) → line_of start (fields ++ field ∷ []) ≡ line_of start fields ++ (32 ∷ field)
line_push start [] field = refl
line_push start (f ∷ fs) field = line_push (start ++ (32 ∷ f)) fs field

-- one more number at the end, of a list's numbers up to a place
pub answer_more : (letter : ℕ) (ns : List ℕ) (i : ℕ) → i < length ns
    → answer_line letter (map pos (take i ns)) ++ (32 ∷ decimal (get_or ns i 0)) ≡ answer_line letter (map pos (take (i + 1) ns))
answer_more letter ns i l =
    let n : ℕ = get_or ns i 0 in
    sym (ap (λ (xs : List ℕ). answer_line letter (map pos xs)) (take_more ns i 0 l)
    ∙ ap (answer_line letter) (map-append pos (take i ns) (n ∷ []))
    ∙ ap (line_of (letter ∷ [])) (map-append signed_decimal (map pos (take i ns)) (pos n ∷ []))
    ∙ line_push (letter ∷ []) (map signed_decimal (map pos (take i ns))) (decimal n))
