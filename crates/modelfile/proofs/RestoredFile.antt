-- What the writer writes is read back: records and whole files.
use Rattle.std.proofs.Common.{◌≡◌, ℕ, ◌+◌, ◌<◌, ◌≤◌, ltb, leb, List, [], ◌∷◌, ◌++◌, length, is_some, Some, None, Ok, Err, Option, sym, refl, ap, ◌∙◌, arith, w32, SFits}
use Rattle.std.proofs.lemmas.List.{append-nil, drop_all}
use Rattle.std.proofs.lemmas.Bool.{le-leb, le-ltb, cond-true, cond-false}
use Rattle.std.specs.List.{flat_map, AllByRecursion}
use Rattle.modelfile.specs.Results.{of_record, of_file, when_set}
use Rattle.modelfile.specs.Bytes.{number, signed, text, branches}
use Rattle.modelfile.specs.Records.{HeaderFields, ChoiceFields, has_bit, bit_map, header, choice}
use Rattle.modelfile.specs.File.{Model, choice_run, state_run, at_end, read_file}
use Rattle.modelfile.specs.Written.{bytes_of, written_signed, written_text, written_branches, if_there, bit_of, written_choice, written_state, written, FourBytes, TextFits, BranchesFit, ChoiceFits, StateFits, ModelFits}
use Rattle.modelfile.specs.declared.fault.FileFault.TheVariants.{Trailing, TooLong}
use Rattle.modelfile.proofs.Fields.{then_ok}
use Rattle.modelfile.proofs.Accepted.{Stands}
use Rattle.modelfile.proofs.AcceptedFile.{written_header, HeaderFits}
use Rattle.modelfile.proofs.Restored.{stands_left, stands_right, number_restores, signed_restores, text_restores, branches_restores, set_restores}

-- the bits of a bit map are those of the fields that are there
two_there : {A B : Type 0} (a : Option A) (b : Option B)
    → (has_bit 1 (bit_of 1 a + bit_of 2 b) ≡ is_some a) × (has_bit 2 (bit_of 1 a + bit_of 2 b) ≡ is_some b) × (bit_of 1 a + bit_of 2 b < 4)
two_there None None = (refl, refl, omega arith)
two_there None (Some b) = (refl, refl, omega arith)
two_there (Some a) None = (refl, refl, omega arith)
two_there (Some a) (Some b) = (refl, refl, omega arith)

three_there : {A B C : Type 0} (a : Option A) (b : Option B) (c : Option C)
    → (has_bit 1 (bit_of 1 a + bit_of 2 b + bit_of 4 c) ≡ is_some a) × (has_bit 2 (bit_of 1 a + bit_of 2 b + bit_of 4 c) ≡ is_some b)
    × (has_bit 4 (bit_of 1 a + bit_of 2 b + bit_of 4 c) ≡ is_some c) × (bit_of 1 a + bit_of 2 b + bit_of 4 c < 8)
three_there None None None = (refl, refl, refl, omega arith)
three_there None None (Some c) = (refl, refl, refl, omega arith)
three_there None (Some b) None = (refl, refl, refl, omega arith)
three_there None (Some b) (Some c) = (refl, refl, refl, omega arith)
three_there (Some a) None None = (refl, refl, refl, omega arith)
three_there (Some a) None (Some c) = (refl, refl, refl, omega arith)
three_there (Some a) (Some b) None = (refl, refl, refl, omega arith)
three_there (Some a) (Some b) (Some c) = (refl, refl, refl, omega arith)

module _ (file : List ℕ) where
  map_restores : (every m p q : ℕ) → number 1 file p ≡ Ok (m, q) → m ≤ every → bit_map every file p ≡ Ok (m, q)
  map_restores every m p q e h = then_ok _ (ap of_record e) ∙ cond-true (leb m every) _ _ (le-leb m every h)

  pub choice_restores : (c : ChoiceFields) (p q : ℕ) → ChoiceFits c → Stands file p (written_choice c) q → choice file p ≡ Ok (c, q)
  choice_restores c p q h s =
      let m : ℕ = bit_of 1 c.reward + bit_of 2 c.branches + bit_of 4 c.label in
      let R : List ℕ = if_there written_signed c.reward in
      let B : List ℕ = if_there written_branches c.branches in
      let L : List ℕ = if_there written_text c.label in
      let p1 : ℕ = p + 1 in
      let p2 : ℕ = p1 + length R in
      let p3 : ℕ = p2 + length B in
      let bits = three_there c.reward c.branches c.label in
      let below = bits.3 in
      let s0 = stands_left file p q (bytes_of 1 m) (R ++ (B ++ L)) s in
      let s1 = stands_right file p q (bytes_of 1 m) (R ++ (B ++ L)) s in
      let s2 = stands_right file p1 q R (B ++ L) s1 in
      let s3 = stands_right file p2 q B L s2 in
      let e0 : number 1 file p ≡ Ok (m, p1) = number_restores file 1 m p p1 (omega arith) s0 in
      let e1 : when_set (has_bit 1 m) p1 (signed file p1) ≡ Ok (c.reward, p2) =
      set_restores file c.reward (has_bit 1 m) p1 p2 (signed file p1) written_signed (SFits w32) bits.0 (λ z. signed_restores file z p1 p2) h.reward (stands_left file p1 q R (B ++ L) s1) in
      let e2 : when_set (has_bit 2 m) p2 (branches file p2) ≡ Ok (c.branches, p3) =
      set_restores file c.branches (has_bit 2 m) p2 p3 (branches file p2) written_branches BranchesFit bits.1 (λ b. branches_restores file b p2 p3) h.branches (stands_left file p2 q B L s2) in
      let e3 : when_set (has_bit 4 m) p3 (text file p3) ≡ Ok (c.label, q) =
      set_restores file c.label (has_bit 4 m) p3 q (text file p3) written_text TextFits bits.2 (λ t. text_restores file t p3 q) h.label s3 in
      then_ok _ (map_restores 7 m p p1 e0 (omega arith))
      ∙ (then_ok _ (ap of_record e1) ∙ (then_ok _ (ap of_record e2) ∙ then_ok _ (ap of_record e3)))

  pub header_restores : (v : HeaderFields) (p q : ℕ) → HeaderFits v → Stands file p (written_header v) q → header file p ≡ Ok (v, q)
  header_restores v p q h s =
      let m : ℕ = bit_of 1 v.denominator + bit_of 2 v.name in
      let D : List ℕ = if_there (bytes_of 4) v.denominator in
      let T : List ℕ = if_there written_text v.name in
      let N : List ℕ = bytes_of 2 v.states in
      let p1 : ℕ = p + 1 in
      let p2 : ℕ = p1 + length D in
      let p3 : ℕ = p2 + length T in
      let bits = two_there v.denominator v.name in
      let below = bits.2 in
      let s0 = stands_left file p q (bytes_of 1 m) (D ++ (T ++ N)) s in
      let s1 = stands_right file p q (bytes_of 1 m) (D ++ (T ++ N)) s in
      let s2 = stands_right file p1 q D (T ++ N) s1 in
      let s3 = stands_right file p2 q T N s2 in
      let e0 : number 1 file p ≡ Ok (m, p1) = number_restores file 1 m p p1 (omega arith) s0 in
      let e1 : when_set (has_bit 1 m) p1 (number 4 file p1) ≡ Ok (v.denominator, p2) =
      set_restores file v.denominator (has_bit 1 m) p1 p2 (number 4 file p1) (bytes_of 4) FourBytes bits.0 (λ n. number_restores file 4 n p1 p2) h.denominator (stands_left file p1 q D (T ++ N) s1) in
      let e2 : when_set (has_bit 2 m) p2 (text file p2) ≡ Ok (v.name, p3) =
      set_restores file v.name (has_bit 2 m) p2 p3 (text file p2) written_text TextFits bits.1 (λ t. text_restores file t p2 p3) h.name (stands_left file p2 q T N s2) in
      let e3 : number 2 file p3 ≡ Ok (v.states, q) = number_restores file 2 v.states p3 q h.states s3 in
      then_ok _ (map_restores 3 m p p1 e0 (omega arith))
      ∙ (then_ok _ (ap of_record e1) ∙ (then_ok _ (ap of_record e2) ∙ then_ok _ (ap of_record e3)))

  pub choices_restore : (cs : List ChoiceFields) (p q : ℕ) → AllByRecursion ChoiceFits cs → Stands file p (flat_map written_choice cs) q → choice_run (length cs) file p ≡ Ok (cs, q)
  choices_restore [] p q h s = let e = s.place in let f : p ≡ q = omega arith in ap (λ (x : ℕ). Ok ([], x)) f
  choices_restore (c ∷ cs) p q h s =
      let r : ℕ = p + length (written_choice c) in
      let one = choice_restores c p r h.0 (stands_left file p q (written_choice c) (flat_map written_choice cs) s) in
      let more = choices_restore cs r q h.1 (stands_right file p q (written_choice c) (flat_map written_choice cs) s) in
      then_ok _ one ∙ then_ok _ more

  pub states_restore : (ss : List (List ChoiceFields)) (p q : ℕ) → AllByRecursion StateFits ss → Stands file p (flat_map written_state ss) q → state_run (length ss) file p ≡ Ok (ss, q)
  states_restore [] p q h s = let e = s.place in let f : p ≡ q = omega arith in ap (λ (x : ℕ). Ok ([], x)) f
  states_restore (cs ∷ ss) p q h s =
      let r : ℕ = p + length (written_state cs) in
      let own = stands_left file p q (written_state cs) (flat_map written_state ss) s in
      let count = number_restores file 1 (length cs) p (p + 1) h.0.0 (stands_left file p r (bytes_of 1 (length cs)) (flat_map written_choice cs) own) in
      let choices = choices_restore cs (p + 1) r h.0.1 (stands_right file p r (bytes_of 1 (length cs)) (flat_map written_choice cs) own) in
      let more = states_restore ss r q h.1 (stands_right file p q (written_state cs) (flat_map written_state ss) s) in
      then_ok _ (ap of_record count) ∙ (then_ok _ choices ∙ then_ok _ more)

-- the file that the writer writes for a model that fits is read as that model
pub file_restores : (m : Model) → ModelFits m → length (written m) ≤ 65536 → read_file (written m) ≡ Ok m
file_restores m h few =
    let file : List ℕ = written m in
    let v : HeaderFields = record { denominator = m.denominator; name = m.name; states = length m.states } in
    let end : ℕ = length file in
    let whole : Stands file 0 (written_header v ++ flat_map written_state m.states) end =
    record {
      bytes = sym (ap (λ (x : List ℕ). file ++ x) (drop_all end file (omega arith)) ∙ append-nil file);
      place = omega arith;
      inside = omega arith;
    } in
    let p : ℕ = 0 + length (written_header v) in
    let fits : HeaderFits v = record { denominator = h.denominator; name = h.name; states = h.count } in
    let head = header_restores file v 0 p fits (stands_left file 0 end (written_header v) (flat_map written_state m.states) whole) in
    let states = states_restore file m.states p end h.states (stands_right file 0 end (written_header v) (flat_map written_state m.states) whole) in
    let last : at_end file (m.states, end) ≡ Ok m.states = cond-false (ltb end (length file)) (Err (Trailing end)) (Ok m.states) (le-ltb end (length file) (omega arith)) in
    cond-true (leb (length file) 65536) _ (Err TooLong) (le-leb (length file) 65536 few)
    ∙ (then_ok _ (ap of_file head) ∙ then_ok _ (then_ok _ (ap of_file states) ∙ last))
