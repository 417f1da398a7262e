-- Where the line ends that begins at a place of an input.
use Rattle.std.proofs.Common.{◌≡◌, ℕ, ◌+◌, ◌<◌, ◌≤◌, Bool, true, false, cond, not, eqb, ltb, List, [], ◌∷◌, length, drop, Some, None, sym, refl, ap, ◌∙◌, arith, length-drop}
use Rattle.std.proofs.lemmas.Bool.{cond-true, cond-false, lt-ltb, le-ltb, ltb-true, ltb-false}
use Rattle.std.proofs.lemmas.List.Sums.{prefix_len-le-length}
use Rattle.std.specs.List.{position, position_or_len}
use Rattle.console.specs.Lines.{up_to}
use Rattle.console.specs.Inputs.{line_end, next_line}

-- one byte more before the stop, or the stop
further : (t : Bool) (b n : ℕ) (front : List ℕ) → length front ≡ n → length (cond t [] (b ∷ front)) ≡ cond (not t) (1 + n) 0
further true b n front e = refl
further false b n front e = omega arith

front_length : (stop : ℕ) (bs : List ℕ) → length (up_to stop bs) ≡ position_or_len (λ b. eqb b stop) bs
front_length stop [] = refl
front_length stop (b ∷ bs) = further (eqb b stop) b _ (up_to stop bs) (front_length stop bs)

-- what a place that was found, or none, says of the test that was made
found : (t : Bool) (n k : ℕ) → Some k ≡ cond t (Some n) None → (t ≡ true) × (k ≡ n)
found true n k e = (refl, cc)
found false n k e = let z : ◌≡◌ {A = ℕ} 0 1 = cc in absurd (omega arith)

missed : (t : Bool) (n : ℕ) → None ≡ cond t (Some n) None → t ≡ false
missed true n e = let z : ◌≡◌ {A = ℕ} 0 1 = cc in absurd (omega arith)
missed false n e = refl

-- a line that ends at a line feed
pub next_fed : (input : List ℕ) (from k : ℕ) → from < length input → Some k ≡ position (λ b. eqb b 10) (drop from input) → Some (from + k, from + k + 1) ≡ next_line input from
next_fed input from k l h =
    let rest : List ℕ = drop from input in
    let n : ℕ = position_or_len (λ b. eqb b 10) rest in
    let p = found (ltb n (length rest)) n k h in
    let inside : n < length rest = ltb-true n (length rest) p.0 in
    let end : line_end input from ≡ from + k = omega (arith, p.1, front_length 10 rest) in
    let before : from + k < length input = omega (arith, p.1, length-drop from input) in
    sym (cond-true (ltb from (length input)) _ _ (lt-ltb from (length input) l)
    ∙ ap (λ (x : ℕ). Some (x, cond (ltb x (length input)) (x + 1) x)) end
    ∙ ap (λ (x : ℕ). Some (from + k, x)) (cond-true (ltb (from + k) (length input)) (from + k + 1) (from + k) (lt-ltb (from + k) (length input) before)))

-- a line that ends with the input
pub next_last : (input : List ℕ) (from : ℕ) → from < length input → None ≡ position (λ b. eqb b 10) (drop from input) → Some (length input, length input) ≡ next_line input from
next_last input from l h =
    let rest : List ℕ = drop from input in
    let n : ℕ = position_or_len (λ b. eqb b 10) rest in
    let past : length rest ≤ n = ltb-false n (length rest) (missed (ltb n (length rest)) n h) in
    let most : n ≤ length rest = prefix_len-le-length (λ b. not (eqb b 10)) rest in
    let end : line_end input from ≡ length input = omega (arith, front_length 10 rest, length-drop from input) in
    sym (cond-true (ltb from (length input)) _ _ (lt-ltb from (length input) l)
    ∙ ap (λ (x : ℕ). Some (x, cond (ltb x (length input)) (x + 1) x)) end
    ∙ ap (λ (x : ℕ). Some (length input, x)) (cond-false (ltb (length input) (length input)) (length input + 1) (length input) (le-ltb (length input) (length input) (omega arith))))
