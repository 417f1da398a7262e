-- Fields and runs of branches: where the bytes suffice, and where they do not.
use Rattle.std.proofs.Common.{◌≡◌, ℕ, zero, suc, ◌+◌, ◌-◌, ◌*◌, ◌<◌, ◌≤◌, true, leb, List, [], ◌∷◌, length, take, drop, Ok, Err, Result, sym, refl, ap, ◌∙◌, arith}
use Rattle.std.proofs.lemmas.List.{drop-drop, take-take, drop-take}
use Rattle.std.proofs.lemmas.Bool.{le-leb}
use Rattle.modelfile.specs.Results.{and_then}
use Rattle.modelfile.specs.Bytes.{branch_of, branch, branch_run, branch_list}
use Rattle.modelfile.specs.declared.fault.ByteFault.{ByteFault}

pub ok_same : {A E : Type 0} {a b : A} → ◌≡◌ {A = Result A E} (Ok a) (Ok b) → a ≡ b
ok_same h = cc

pub then_ok : {A B E : Type 0} {r : Result A E} {a : A} (next : A → Result B E) → r ≡ Ok a → and_then r next ≡ next a
then_ok next h = ap (λ r. and_then r next) h

pub then_err : {A B E : Type 0} {r : Result A E} {e : E} (next : A → Result B E) → r ≡ Err e → and_then r next ≡ Err e
then_err next h = ap (λ r. and_then r next) h

module _ (file : List ℕ) where
  pub branch_ok : (p : ℕ) → p + 6 ≤ length file
      → branch file p ≡ Ok (branch_of (take 6 (drop p file)), p + 6)
  branch_ok p h =
      let a : leb (p + 2) (length file) ≡ true = le-leb (p + 2) (length file) (omega arith) in
      let b : leb (p + 2 + 4) (length file) ≡ true = le-leb (p + 2 + 4) (length file) (omega arith) in
      let s : p + 2 + 4 ≡ p + 6 = omega arith in
      let d : drop 2 (drop p file) ≡ drop (p + 2) file = drop-drop 2 p file in
      let low : take 2 (take 6 (drop p file)) ≡ take 2 (drop p file) = take-take 2 6 (drop p file) (omega arith) in
      let high : drop 2 (take 6 (drop p file)) ≡ take 4 (drop 2 (drop p file)) = drop-take 2 4 (drop p file) in
      rw (a, b, s, low, high, d)

  -- enough bytes for k branches
  pub run_ok : (k p : ℕ) → p + 6 * k ≤ length file → branch_run k file p ≡ Ok (branch_list k (drop p file), p + 6 * k)
  run_ok zero p h = let e : p ≡ p + 6 * 0 = omega arith in ap (λ (q : ℕ). Ok ([], q)) e
  run_ok (suc k) p h =
      let e : p + 6 + 6 * k ≡ p + 6 * suc k = omega arith in
      let d : drop 6 (drop p file) ≡ drop (p + 6) file = drop-drop 6 p file in
      let b = branch_ok p (omega arith) in
      let r = run_ok k (p + 6) (omega arith) in
      then_ok (λ b. and_then (branch_run k file b.1) (λ bs. Ok (b.0 ∷ bs.0, bs.1))) b
      ∙ then_ok (λ bs. Ok (branch_of (take 6 (drop p file)) ∷ bs.0, bs.1)) r
      ∙ rw (d, e)

  -- the first of k branches that lacks bytes decides
  pub run_err : (k i p : ℕ) (e : ByteFault) → i < k → p + 6 * i ≤ length file → branch file (p + 6 * i) ≡ Err e → branch_run k file p ≡ Err e
  run_err zero i p e l h f = absurd (omega arith)
  run_err (suc k) zero p e l h f =
      let q : p + 6 * 0 ≡ p = omega arith in
      then_err (λ b. and_then (branch_run k file b.1) (λ bs. Ok (b.0 ∷ bs.0, bs.1))) (ap (branch file) (sym q) ∙ f)
  run_err (suc k) (suc i) p e l h f =
      let q : p + 6 * suc i ≡ p + 6 + 6 * i = omega arith in
      let b = branch_ok p (omega arith) in
      let r = run_err k i (p + 6) e (omega arith) (omega arith) (ap (branch file) (sym q) ∙ f) in
      then_ok (λ b. and_then (branch_run k file b.1) (λ bs. Ok (b.0 ∷ bs.0, bs.1))) b
      ∙ then_err (λ bs. Ok (branch_of (take 6 (drop p file)) ∷ bs.0, bs.1)) r

cut : (i n : ℕ) (bytes : List ℕ) → i ≤ n → drop i (take n bytes) ≡ take (n - i) (drop i bytes)
cut i n bytes h = let q : n ≡ i + (n - i) = omega arith in ap (λ (m : ℕ). drop i (take m bytes)) q ∙ drop-take i (n - i) bytes

-- the branches that a run of bytes holds are those at its start in the file
pub list_cut : (k n : ℕ) (bytes : List ℕ) → 6 * k ≤ n → branch_list k (take n bytes) ≡ branch_list k bytes
list_cut zero n bytes h = refl
list_cut (suc k) n bytes h =
    let a = take-take 6 n bytes (omega arith) in
    let d = cut 6 n bytes (omega arith) in
    let r = list_cut k (n - 6) (drop 6 bytes) (omega arith) in
    rw (a, d, r)
