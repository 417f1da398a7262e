-- What the writer writes is read back: fields, texts, branches.
use Rattle.std.proofs.Common.{◌≡◌, ℕ, zero, suc, ◌+◌, ◌*◌, ◌/◌, ◌^◌, ◌<◌, ◌≤◌, Bool, leb, List, [], ◌∷◌, ◌++◌, length, take, drop, ℤ, is_some, Some, None, Ok, Err, Option, sym, refl, ap, ◌∙◌, ap₂, pow-suc, arith, w32, SFits, to_z, of_z}
use mir.Facts.{Fits-of_z}
use Rattle.std.proofs.lemmas.List.{drop-drop, append_assoc, length-append, take_at, drop_at}
use Rattle.std.proofs.lemmas.Int.{to_z-of_z}
use Rattle.std.proofs.lemmas.Bool.{le-leb, cond-true}
use Rattle.std.specs.List.{flat_map, AllByRecursion}
use Rattle.modelfile.specs.Results.{Read, and_then, when_set}
use Rattle.modelfile.specs.Bytes.{field, little_endian, number, signed, text, branch, branch_run, branches}
use Rattle.modelfile.specs.Written.{bytes_of, written_signed, written_text, written_branch, written_branches, if_there, TextFits, BranchFits, BranchesFit, WhereThere}
use Rattle.modelfile.specs.declared.fault.ByteFault.TheVariants.{Lacking}
use Rattle.modelfile.proofs.Fields.{then_ok}
use Rattle.modelfile.proofs.Accepted.{Stands}

pub bytes_long : (k n : ℕ) → length (bytes_of k n) ≡ k
bytes_long zero n = refl
bytes_long (suc k) n = ap suc (bytes_long k (n / 256))

number_of_bytes : (k n : ℕ) → n < 256 ^ k → little_endian (bytes_of k n) ≡ n
number_of_bytes zero n h = omega arith
number_of_bytes (suc k) n h =
    let more : 256 ^ suc k ≡ 256 ^ k * 256 = pow-suc 256 k in
    let e = number_of_bytes k (n / 256) (omega arith) in
    omega arith

module _ (file : List ℕ) where
  behind : (p r : ℕ) (a b : List ℕ) → Stands file p (a ++ b) r → drop (p + length a) file ≡ b ++ drop r file
  behind p r a b s =
      sym (drop-drop (length a) p file)
      ∙ ap (drop (length a)) (s.bytes ∙ append_assoc a b (drop r file))
      ∙ drop_at a (b ++ drop r file) (length a) refl

  -- bytes in two parts
  pub stands_left : (p r : ℕ) (a b : List ℕ) → Stands file p (a ++ b) r → Stands file p a (p + length a)
  stands_left p r a b s = record {
    bytes = s.bytes ∙ append_assoc a b (drop r file) ∙ ap (λ (x : List ℕ). a ++ x) (sym (behind p r a b s));
    place = refl;
    inside = let e = length-append a b in let f = s.place in let g = s.inside in omega arith;
  }

  pub stands_right : (p r : ℕ) (a b : List ℕ) → Stands file p (a ++ b) r → Stands file (p + length a) b r
  stands_right p r a b s = record {
    bytes = behind p r a b s;
    place = let e = length-append a b in let f = s.place in omega arith;
    inside = s.inside;
  }

  pub field_restores : (p q : ℕ) (bs : List ℕ) → Stands file p bs q → field (length bs) file p ≡ Ok (bs, q)
  field_restores p q bs s =
      let at = s.place in
      let in-file = s.inside in
      let room : p + length bs ≤ length file = omega arith in
      let bytes : take (length bs) (drop p file) ≡ bs = ap (take (length bs)) s.bytes ∙ take_at bs (drop q file) (length bs) refl in
      cond-true (leb (p + length bs) (length file)) (Ok (take (length bs) (drop p file), p + length bs)) (Err (Lacking p)) (le-leb (p + length bs) (length file) room)
      ∙ ap₂ (λ (x : List ℕ) (y : ℕ). Ok (x, y)) bytes (sym at)

  pub number_restores : (k n p q : ℕ) → n < 256 ^ k → Stands file p (bytes_of k n) q → number k file p ≡ Ok (n, q)
  number_restores k n p q h s =
      let f : field k file p ≡ Ok (bytes_of k n, q) =
      ap (λ (x : ℕ). field x file p) (sym (bytes_long k n)) ∙ field_restores p q (bytes_of k n) s in
      then_ok (λ f. Ok (little_endian f.0, f.1)) f ∙ ap (λ (x : ℕ). Ok (x, q)) (number_of_bytes k n h)

  pub signed_restores : (z : ℤ) (p q : ℕ) → SFits w32 z → Stands file p (written_signed z) q → signed file p ≡ Ok (z, q)
  signed_restores z p q h s =
      then_ok (λ n. Ok (to_z w32 n.0, n.1)) (number_restores 4 (of_z w32 z) p q (Fits-of_z h).fits s)
      ∙ ap (λ (x : ℤ). Ok (x, q)) (to_z-of_z w32 z h)

  pub text_restores : (t : List ℕ) (p q : ℕ) → TextFits t → Stands file p (written_text t) q → text file p ≡ Ok (t, q)
  text_restores t p q h s =
      then_ok (λ n. field n.0 file n.1) (number_restores 1 (length t) p (p + 1) h.0 (stands_left p q (bytes_of 1 (length t)) t s))
      ∙ field_restores (p + 1) q t (stands_right p q (bytes_of 1 (length t)) t s)

  pub branch_restores : (b : ℕ × ℕ) (p q : ℕ) → BranchFits b → Stands file p (written_branch b) q → branch file p ≡ Ok (b, q)
  branch_restores b p q h s =
      then_ok (λ u. and_then (number 4 file u.1) (λ w. Ok ((u.0, w.0), w.1)))
      (number_restores 2 b.0 p (p + 2) h.0 (stands_left p q (bytes_of 2 b.0) (bytes_of 4 b.1) s))
      ∙ then_ok (λ w. Ok ((b.0, w.0), w.1)) (number_restores 4 b.1 (p + 2) q h.1 (stands_right p q (bytes_of 2 b.0) (bytes_of 4 b.1) s))

  pub run_restores : (bs : List (ℕ × ℕ)) (p q : ℕ) → AllByRecursion BranchFits bs → Stands file p (flat_map written_branch bs) q → branch_run (length bs) file p ≡ Ok (bs, q)
  run_restores [] p q h s = let e = s.place in let f : p ≡ q = omega arith in ap (λ (x : ℕ). Ok ([], x)) f
  run_restores (b ∷ bs) p q h s =
      let one = branch_restores b p (p + 6) h.0 (stands_left p q (written_branch b) (flat_map written_branch bs) s) in
      let more = run_restores bs (p + 6) q h.1 (stands_right p q (written_branch b) (flat_map written_branch bs) s) in
      then_ok (λ b. and_then (branch_run (length bs) file b.1) (λ bs. Ok (b.0 ∷ bs.0, bs.1))) one
      ∙ then_ok (λ bs. Ok (b ∷ bs.0, bs.1)) more

  pub branches_restores : (bs : List (ℕ × ℕ)) (p q : ℕ) → BranchesFit bs → Stands file p (written_branches bs) q → branches file p ≡ Ok (bs, q)
  branches_restores bs p q h s =
      then_ok (λ n. branch_run n.0 file n.1) (number_restores 1 (length bs) p (p + 1) h.0 (stands_left p q (bytes_of 1 (length bs)) (flat_map written_branch bs) s))
      ∙ run_restores bs (p + 1) q h.1 (stands_right p q (bytes_of 1 (length bs)) (flat_map written_branch bs) s)

  -- a part that stands only where its bit does
  pub set_restores : {A E : Type 0} (o : Option A) (b : Bool) (p q : ℕ) (part : Read A E) (write : A → List ℕ) (Fit : A → Type 0) → b ≡ is_some o
      → ((a : A) → Fit a → Stands file p (write a) q → part ≡ Ok (a, q))
      → WhereThere Fit o → Stands file p (if_there write o) q → when_set b p part ≡ Ok (o, q)
  set_restores None b p q part write Fit e reads h s =
      let at = s.place in
      let f : p ≡ q = omega arith in
      ap (λ (x : Bool). when_set x p part) e ∙ ap (λ (x : ℕ). Ok (None, x)) f
  set_restores (Some a) b p q part write Fit e reads h s =
      ap (λ (x : Bool). when_set x p part) e ∙ then_ok (λ v. Ok (Some v.0, v.1)) (reads a h s)
