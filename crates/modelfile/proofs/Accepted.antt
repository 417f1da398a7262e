-- What is read stands in the file as the writer writes it.
use Rattle.std.proofs.Common.{◌≡◌, ℕ, zero, suc, ◌+◌, ◌*◌, ◌/◌, ◌%◌, ◌^◌, ◌<◌, ◌≤◌, Bool, true, false, cond, leb, List, [], ◌∷◌, ◌++◌, length, get_or, take, drop, ℤ, Some, Ok, Option, sym, refl, ap, ◌∙◌, subst, ap₂, pow-suc, arith, w32, SFits, to_z, of_z}
use mir.Facts.{sfits_to_z}
use Rattle.std.proofs.lemmas.List.{drop-drop, take-append-drop, append_assoc, length-append, length-take-le, length-drop, get_or-drop}
use Rattle.std.proofs.lemmas.Int.{of_z-to_z}
use Rattle.std.proofs.lemmas.Bool.{leb-true}
use Rattle.std.specs.List.{flat_map, AllByRecursion}
use Rattle.modelfile.specs.Results.{Read, and_then, when_set}
use Rattle.modelfile.specs.Bytes.{field, little_endian, number, signed, text, branch, branch_run, branches}
use Rattle.modelfile.specs.Written.{bytes_of, written_signed, written_text, written_branch, written_branches, if_there, bit_of, OneByte, TextFits, BranchFits, BranchesFit, WhereThere}
use Rattle.modelfile.specs.declared.fault.ByteFault.TheVariants.{Lacking}
use Rattle.modelfile.proofs.Fields.{ok_same}
use Rattle.modelfile.proofs.Inverse.{then_inv, test_inv}

-- the bytes bs stand in the file from p to q
pub record Stands (file : List ℕ) (p : ℕ) (bs : List ℕ) (q : ℕ) : Type 0 where
  pub bytes : drop p file ≡ bs ++ drop q file
  pub place : q ≡ p + length bs
  pub inside : q ≤ length file

pub stands_none : (file : List ℕ) (p : ℕ) → p ≤ length file → Stands file p [] p
stands_none file p h = record { bytes = refl; place = omega arith; inside = h }

pub stands_append : {file : List ℕ} {p q r : ℕ} {a b : List ℕ} → Stands file p a q → Stands file q b r → Stands file p (a ++ b) r
stands_append {file} {p} {q} {r} {a} {b} s t = record {
  bytes = s.bytes ∙ ap (λ (x : List ℕ). a ++ x) t.bytes ∙ sym (append_assoc a b (drop r file));
  place = let e = length-append a b in let f = s.place in let g = t.place in omega arith;
  inside = t.inside;
}

-- every byte is below 256
abbrev pub Small : List ℕ → Type 0
Small bs = (i : ℕ) → get_or bs i 0 < 2 ^ 8

small_drop : (n : ℕ) (bs : List ℕ) → Small bs → Small (drop n bs)
small_drop n bs h i = subst (λ (x : ℕ). x < 2 ^ 8) (sym (get_or-drop n bs i 0)) (h (n + i))

small_take : (n : ℕ) (bs : List ℕ) → Small bs → Small (take n bs)
small_take zero bs h i = omega arith
small_take (suc n) [] h i = omega arith
small_take (suc n) (b ∷ bs) h zero = h 0
small_take (suc n) (b ∷ bs) h (suc i) = small_take n bs (λ j. h (suc j)) i

small_all : (bs : List ℕ) → Small bs → AllByRecursion OneByte bs
small_all [] h = tt
small_all (b ∷ bs) h = (h 0, small_all bs (λ j. h (suc j)))

-- the bytes of the number that bytes stand for are these bytes
bytes_of_number : (bs : List ℕ) → Small bs → bytes_of (length bs) (little_endian bs) ≡ bs
bytes_of_number [] h = refl
bytes_of_number (b ∷ bs) h =
    let small : b < 2 ^ 8 = h 0 in
    let low : (b + 256 * little_endian bs) % 256 ≡ b = omega arith in
    let high : (b + 256 * little_endian bs) / 256 ≡ little_endian bs = omega arith in
    ap₂ ◌∷◌ low (ap (bytes_of (length bs)) high ∙ bytes_of_number bs (λ j. h (suc j)))

number_below : (bs : List ℕ) (k : ℕ) → Small bs → length bs ≡ k → little_endian bs < 256 ^ k
number_below [] zero h e = omega arith
number_below [] (suc k) h e = absurd (omega arith)
number_below (b ∷ bs) zero h e = absurd (omega arith)
number_below (b ∷ bs) (suc k) h e =
    let small : b < 2 ^ 8 = h 0 in
    let rest = number_below bs k (λ j. h (suc j)) (omega arith) in
    let more : 256 ^ suc k ≡ 256 ^ k * 256 = pow-suc 256 k in
    omega arith

module _ (file : List ℕ) (small : Small file) where
  -- an accepted read stands as it is written, and fits
  abbrev pub Reads : {A E : Type 0} → ℕ → Read A E → (A → List ℕ) → (A → Type 0) → Type 0
  Reads {A} p r write Fit = (v : A × ℕ) → r ≡ Ok v → Stands file p (write v.0) v.1 × Fit v.0

  pub field_reads : (k p : ℕ) (v : List ℕ × ℕ) → field k file p ≡ Ok v → Stands file p v.0 v.1 × (length v.0 ≡ k) × Small v.0
  field_reads k p v h =
      let t = test_inv (leb (p + k) (length file)) (Ok (take k (drop p file), p + k)) (Lacking p) h in
      let room : p + k ≤ length file = leb-true (p + k) (length file) t.0 in
      let same : (take k (drop p file), p + k) ≡ v = ok_same t.1 in
      let long : length (take k (drop p file)) ≡ k = length-take-le k (drop p file) (let e = length-drop p file in omega arith) in
      let here : Stands file p (take k (drop p file)) (p + k) =
      record {
        bytes = sym (take-append-drop k (drop p file)) ∙ ap (λ (x : List ℕ). take k (drop p file) ++ x) (drop-drop k p file);
        place = ap (λ (n : ℕ). p + n) (sym long);
        inside = room;
      } in
      subst (λ (v : List ℕ × ℕ). Stands file p v.0 v.1 × (length v.0 ≡ k) × Small v.0) same
      (here, long, small_take k (drop p file) (small_drop p file small))

  pub number_reads : (k p : ℕ) → Reads p (number k file p) (bytes_of k) (λ n. n < 256 ^ k)
  number_reads k p v h =
      let t = then_inv (field k file p) (λ f. Ok (little_endian f.0, f.1)) h in
      let f : List ℕ × ℕ = t.0 in
      let r = field_reads k p f t.1 in
      let same : (little_endian f.0, f.1) ≡ v = ok_same t.2 in
      let bytes : f.0 ≡ bytes_of k (little_endian f.0) =
      sym (ap (λ (n : ℕ). bytes_of n (little_endian f.0)) (sym r.1) ∙ bytes_of_number f.0 r.2) in
      subst (λ (v : ℕ × ℕ). Stands file p (bytes_of k v.0) v.1 × (v.0 < 256 ^ k)) same
      (subst (λ (bs : List ℕ). Stands file p bs f.1) bytes r.0, number_below f.0 k r.2 r.1)

  pub signed_reads : (p : ℕ) → Reads p (signed file p) written_signed (SFits w32)
  signed_reads p v h =
      let t = then_inv (number 4 file p) (λ n. Ok (to_z w32 n.0, n.1)) h in
      let n : ℕ × ℕ = t.0 in
      let r = number_reads 4 p n t.1 in
      let below : n.0 < 2 ^ 32 = r.1 in
      let same : (to_z w32 n.0, n.1) ≡ v = ok_same t.2 in
      let back : n.0 ≡ of_z w32 (to_z w32 n.0) = sym (of_z-to_z w32 n.0 below) in
      subst (λ (v : ℤ × ℕ). Stands file p (written_signed v.0) v.1 × SFits w32 v.0) same
      (subst (λ (x : ℕ). Stands file p (bytes_of 4 x) n.1) back r.0, sfits_to_z (record { fits = below }))

  pub text_reads : (p : ℕ) → Reads p (text file p) written_text TextFits
  text_reads p v h =
      let t = then_inv (number 1 file p) (λ n. field n.0 file n.1) h in
      let n : ℕ × ℕ = t.0 in
      let a = number_reads 1 p n t.1 in
      let b = field_reads n.0 n.1 v t.2 in
      let long : n.0 ≡ length v.0 = sym b.1 in
      let count : length v.0 < 2 ^ 8 = subst (λ (x : ℕ). x < 2 ^ 8) long a.1 in
      (stands_append (subst (λ (x : ℕ). Stands file p (bytes_of 1 x) n.1) long a.0) b.0, (count, small_all v.0 b.2))

  pub branch_reads : (p : ℕ) → Reads p (branch file p) written_branch BranchFits
  branch_reads p v h =
      let t = then_inv (number 2 file p) (λ u. and_then (number 4 file u.1) (λ w. Ok ((u.0, w.0), w.1))) h in
      let u : ℕ × ℕ = t.0 in
      let s = then_inv (number 4 file u.1) (λ w. Ok ((u.0, w.0), w.1)) t.2 in
      let w : ℕ × ℕ = s.0 in
      let a = number_reads 2 p u t.1 in
      let b = number_reads 4 u.1 w s.1 in
      subst (λ (v : (ℕ × ℕ) × ℕ). Stands file p (written_branch v.0) v.1 × BranchFits v.0) (ok_same s.2)
      (stands_append a.0 b.0, (a.1, b.1))

  -- parts one after the other
  pub run_reads : (k p : ℕ) → p ≤ length file → (v : List (ℕ × ℕ) × ℕ) → branch_run k file p ≡ Ok v
      → Stands file p (flat_map written_branch v.0) v.1 × (length v.0 ≡ k) × AllByRecursion BranchFits v.0
  run_reads zero p room v h =
      subst (λ (v : List (ℕ × ℕ) × ℕ). Stands file p (flat_map written_branch v.0) v.1 × (length v.0 ≡ 0) × AllByRecursion BranchFits v.0) (ok_same h)
      (stands_none file p room, refl, tt)
  run_reads (suc k) p room v h =
      let t = then_inv (branch file p) (λ b. and_then (branch_run k file b.1) (λ bs. Ok (b.0 ∷ bs.0, bs.1))) h in
      let b : (ℕ × ℕ) × ℕ = t.0 in
      let s = then_inv (branch_run k file b.1) (λ bs. Ok (b.0 ∷ bs.0, bs.1)) t.2 in
      let one = branch_reads p b t.1 in
      let more = run_reads k b.1 one.0.inside s.0 s.1 in
      subst (λ (v : List (ℕ × ℕ) × ℕ). Stands file p (flat_map written_branch v.0) v.1 × (length v.0 ≡ suc k) × AllByRecursion BranchFits v.0) (ok_same s.2)
      (stands_append one.0 more.0, ap suc more.1, (one.1, more.2))

  pub branches_reads : (p : ℕ) → Reads p (branches file p) written_branches BranchesFit
  branches_reads p v h =
      let t = then_inv (number 1 file p) (λ n. branch_run n.0 file n.1) h in
      let n : ℕ × ℕ = t.0 in
      let a = number_reads 1 p n t.1 in
      let b = run_reads n.0 n.1 a.0.inside v t.2 in
      let long : n.0 ≡ length v.0 = sym b.1 in
      let count : length v.0 < 2 ^ 8 = subst (λ (x : ℕ). x < 2 ^ 8) long a.1 in
      (stands_append (subst (λ (x : ℕ). Stands file p (bytes_of 1 x) n.1) long a.0) b.0, (count, b.2))

  -- a part that stands only where its bit does
  pub set_reads : {A E : Type 0} (b : Bool) (bit p : ℕ) (part : Read A E) (write : A → List ℕ) (Fit : A → Type 0) → p ≤ length file → Reads p part write Fit
      → (v : Option A × ℕ) → when_set b p part ≡ Ok v
      → Stands file p (if_there write v.0) v.1 × (bit_of bit v.0 ≡ cond b bit 0) × WhereThere Fit v.0
  set_reads {A} false bit p part write Fit room reads v h =
      subst (λ (v : Option A × ℕ). Stands file p (if_there write v.0) v.1 × (bit_of bit v.0 ≡ 0) × WhereThere Fit v.0) (ok_same h)
      (stands_none file p room, refl, tt)
  set_reads {A} true bit p part write Fit room reads v h =
      let t = then_inv part (λ v. Ok (Some v.0, v.1)) h in
      let r = reads t.0 t.1 in
      subst (λ (v : Option A × ℕ). Stands file p (if_there write v.0) v.1 × (bit_of bit v.0 ≡ bit) × WhereThere Fit v.0) (ok_same t.2)
      (r.0, refl, r.1)
