-- The answers to the lines of an input, one line after the other.
use Rattle.std.proofs.Common.{◌≡◌, ℕ, suc, ◌<◌, ◌≤◌, eqb, List, [], ◌∷◌, ◌++◌, length, sym, ap, ◌∙◌, append_assoc, arith}
use Rattle.std.proofs.lemmas.Bool.{cond_both}
use Rattle.history.specs.Calls.{State, run}
use Rattle.console.specs.Commands.{command_of}
use Rattle.console.specs.Inputs.{extended, lines_of}
use Rattle.quoting.specs.Replies.{call_in, reply}
use Rattle.quoting.specs.Runs.{replies, bytes_of}
use Rattle.quoting.specs.Consoles.{counted}

-- no more lines than bytes
longer : (b : ℕ) (lines : List (List ℕ)) → length (extended b lines) ≤ suc (length lines)
longer b [] = omega arith
longer b (l ∷ ls) = omega arith

pub lines_few : (input : List ℕ) → length (lines_of input) ≤ length input
lines_few [] = omega arith
lines_few (b ∷ bs) =
    cond_both (eqb b 10) ([] ∷ lines_of bs) (extended b (lines_of bs)) (λ (lines : List (List ℕ)). length lines ≤ length (b ∷ bs))
    (λ _. omega (arith, lines_few bs)) (λ _. omega (arith, lines_few bs, longer b (lines_of bs)))

-- a line is answered, and its answer stands behind those before it
pub line_more : (done whole line bytes : List ℕ) (rest lines : List (List ℕ)) (n m : ℕ) (S T : State) → lines ≡ line ∷ rest → n < 18446744073709551615
    → bytes ≡ reply (counted n) S line → m ≡ counted n → T ≡ run S (call_in (command_of line))
    → done ++ bytes_of (replies (suc n) S lines) ≡ whole
    → (done ++ (bytes ++ (10 ∷ []))) ++ bytes_of (replies (suc m) T rest) ≡ whole
line_more done whole line bytes rest lines n m S T l few b k t h =
    let number : counted n ≡ suc n = omega arith in
    let count : m ≡ suc n = k ∙ number in
    let said : bytes ≡ reply (suc n) S line = b ∙ ap (λ (i : ℕ). reply i S line) number in
    let later : replies (suc m) T rest ≡ replies (suc (suc n)) (run S (call_in (command_of line))) rest =
    ap (λ (i : ℕ). replies (suc i) T rest) count ∙ ap (λ (U : State). replies (suc (suc n)) U rest) t in
    append_assoc done (bytes ++ (10 ∷ [])) (bytes_of (replies (suc m) T rest))
    ∙ ap (λ (x : List ℕ). done ++ ((x ++ (10 ∷ [])) ++ bytes_of (replies (suc m) T rest))) said
    ∙ ap (λ (ls : List (List ℕ)). done ++ ((reply (suc n) S line ++ (10 ∷ [])) ++ bytes_of ls)) later
    ∙ sym (ap (λ (ls : List (List ℕ)). done ++ bytes_of (replies (suc n) S ls)) l)
    ∙ h
