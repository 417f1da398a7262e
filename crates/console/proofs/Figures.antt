-- Digits and the number that they write.
use Rattle.std.proofs.Common.{◌≡◌, ℕ, ◌<◌, ◌≤◌, true, false, leb, List, [], ◌∷◌, length, is_ok, Some, None, Ok, Err, Result, sym, refl, ap, ◌∙◌, subst, arith}
use Rattle.std.proofs.lemmas.Bool.{cond-true, cond_both, and_from, le-leb}
use Rattle.std.proofs.lemmas.Fmt.{IsAscii-from_digits}
use Rattle.std.proofs.lemmas.List.Sums.{take_while-cons}
use Rattle.std.proofs.lemmas.Str.{IsUtf8-from_ascii}
use Rattle.std.proofs.lemmas.Str.Parse.{IsNumeralModel, numerals_by_value, tells_all_ascii_digits, digits_value_short, parse_digits}
use Rattle.std.specs.List.{take_while}
use Rattle.std.specs.Result.{result_ok, MatchResult}
use Rattle.std.specs.Str.Parse.{digits_value, ParsesUnsigned}
use Rattle.std.specs.Char.{is_ascii_digit}
use Rattle.std.specs.Str.{IsUtf8, all_ascii_digits}
use Rattle.console.specs.Commands.{number_of}

pub own : IsNumeralModel (λ ds. all_ascii_digits ds ≡ true) (digits_value 10)
own = numerals_by_value _ tells_all_ascii_digits

-- digits are text
pub text_digits : (ds : List ℕ) → all_ascii_digits ds ≡ true → IsUtf8 ds
text_digits ds h = IsUtf8-from_ascii ds (IsAscii-from_digits ds (own.to ds h))

-- a run of digits has nothing else
pub digits_run : (bs : List ℕ) → all_ascii_digits (take_while is_ascii_digit bs) ≡ true
digits_run [] = refl
digits_run (b ∷ bs) =
    ap all_ascii_digits (take_while-cons is_ascii_digit b bs)
    ∙ cond_both (is_ascii_digit b) (b ∷ take_while is_ascii_digit bs) [] (λ run. all_ascii_digits run ≡ true) (λ d. and_from (is_ascii_digit b) (all_ascii_digits (take_while is_ascii_digit bs)) d (digits_run bs)) (λ _. refl)

-- 1 to 18 digits write a number
pub number_some : (ds : List ℕ) → 0 < length ds → length ds ≤ 18 → number_of ds ≡ Some (digits_value 10 ds)
number_some ds some few =
    cond-true _ (Some (digits_value 10 ds)) None (and_from (leb 1 (length ds)) (leb (length ds) 18) (le-leb 1 (length ds) some) (le-leb (length ds) 18 few))

-- what is parsed is the number that they write
pub parsed : {E : Type 0} (ds : List ℕ) (r : Result ℕ E) → ParsesUnsigned 64 10 ds r → all_ascii_digits ds ≡ true → length ds ≤ 18 → result_ok r ≡ number_of ds
parsed {E} [] (Ok n) h d few = let k = parse_digits own {E = E} 64 [] (Ok n) h d in absurd (omega (arith, k.0.0))
parsed [] (Err e) h d few = refl
parsed {E} (c ∷ cs) (Ok n) h d few = ap Some (parse_digits own {E = E} 64 (c ∷ cs) (Ok n) h d).1 ∙ sym (number_some (c ∷ cs) (omega arith) few)
parsed (c ∷ cs) (Err e) h d few =
    let small = digits_value_short own (c ∷ cs) 18 d few in
    absurd (parse_digits own 64 (c ∷ cs) (Err e) h d (omega arith, omega arith))

-- a result that cannot be an error, and the value that it has
pub no_error : {T E : Type 0} (P : T → Type 0) (Q : E → Type 0) (r : Result T E) → MatchResult r P Q → ((e : E) → Q e → ⊥) → false ≡ is_ok r → ⊥
no_error P Q (Ok x) h none e = let z : ◌≡◌ {A = ℕ} 0 1 = cc in omega arith
no_error P Q (Err x) h none e = none x h

pub ok_value : {T E : Type 0} (P : T → Type 0) (Q : E → Type 0) (r : Result T E) (x : T) → MatchResult r P Q → Some x ≡ result_ok r → P x
ok_value P Q (Ok y) x h e = let same : y ≡ x = cc in subst P same h
ok_value P Q (Err y) x h e = let z : ◌≡◌ {A = ℕ} 0 1 = cc in absurd (omega arith)
