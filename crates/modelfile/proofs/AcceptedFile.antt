-- Records and whole files that are accepted stand in the file as the writer writes them.
use Rattle.std.proofs.Common.{◌≡◌, ℕ, zero, suc, ◌+◌, ◌^◌, ◌<◌, ◌≤◌, cond, ltb, leb, List, [], ◌++◌, length, drop, Ok, sym, refl, ap, ◌∙◌, subst, ap₂, arith, w32, SFits}
use Rattle.std.proofs.lemmas.List.{append-nil, drop_all}
use Rattle.std.proofs.lemmas.Bool.{leb-true, ltb-false}
use Rattle.std.specs.List.{flat_map, AllByRecursion}
use Rattle.modelfile.specs.Results.{and_then, of_record, of_file, when_set}
use Rattle.modelfile.specs.Bytes.{number, signed, text, branches}
use Rattle.modelfile.specs.Records.{HeaderFields, ChoiceFields, has_bit, bit_map, header, state, choice}
use Rattle.modelfile.specs.File.{Model, choice_run, state_run, at_end, body, read_file}
use Rattle.modelfile.specs.Written.{bytes_of, written_signed, written_text, written_branches, if_there, bit_of, written_choice, written_state, written, FourBytes, TwoBytes, TextFits, BranchesFit, WhereThere, ChoiceFits, StateFits, ModelFits}
use Rattle.modelfile.specs.declared.fault.FileFault.TheVariants.{Trailing, TooLong}
use Rattle.modelfile.proofs.Fields.{ok_same}
use Rattle.modelfile.proofs.Inverse.{then_inv, record_inv, file_inv, test_inv, end_inv, map_inv}
use Rattle.modelfile.proofs.Accepted.{Stands, stands_none, stands_append, Small, number_reads, signed_reads, text_reads, branches_reads, set_reads}

-- a bit map is the sum of its bits
pub two_bits : (m : ℕ) → m < 4 → cond (has_bit 1 m) 1 0 + cond (has_bit 2 m) 2 0 ≡ m
two_bits zero h = refl
two_bits (suc zero) h = refl
two_bits (suc (suc zero)) h = refl
two_bits (suc (suc (suc zero))) h = refl
two_bits (suc (suc (suc (suc m)))) h = absurd (omega arith)

pub three_bits : (m : ℕ) → m < 8 → cond (has_bit 1 m) 1 0 + cond (has_bit 2 m) 2 0 + cond (has_bit 4 m) 4 0 ≡ m
three_bits zero h = refl
three_bits (suc zero) h = refl
three_bits (suc (suc zero)) h = refl
three_bits (suc (suc (suc zero))) h = refl
three_bits (suc (suc (suc (suc zero)))) h = refl
three_bits (suc (suc (suc (suc (suc zero))))) h = refl
three_bits (suc (suc (suc (suc (suc (suc zero)))))) h = refl
three_bits (suc (suc (suc (suc (suc (suc (suc zero))))))) h = refl
three_bits (suc (suc (suc (suc (suc (suc (suc (suc m)))))))) h = absurd (omega arith)

-- what stands before the states
abbrev pub written_header : HeaderFields → List ℕ
written_header h =
    bytes_of 1 (bit_of 1 h.denominator + bit_of 2 h.name)
    ++ (if_there (bytes_of 4) h.denominator ++ (if_there written_text h.name ++ bytes_of 2 h.states))

pub record HeaderFits (h : HeaderFields) : Type 0 where
  pub denominator : WhereThere FourBytes h.denominator
  pub name : WhereThere TextFits h.name
  pub states : TwoBytes h.states

module _ (file : List ℕ) (small : Small file) where
  pub choice_reads : (p : ℕ) (v : ChoiceFields × ℕ) → choice file p ≡ Ok v → Stands file p (written_choice v.0) v.1 × ChoiceFits v.0
  choice_reads p v h =
      let t0 = then_inv (bit_map 7 file p) _ h in
      let m : ℕ × ℕ = t0.0 in
      let map = map_inv 7 file p m t0.1 in
      let a = number_reads file small 1 p m map.0 in
      let t1 = then_inv (of_record (when_set (has_bit 1 m.0) m.1 (signed file m.1))) _ t0.2 in
      let r = t1.0 in
      let b = set_reads file small (has_bit 1 m.0) 1 m.1 (signed file m.1) written_signed (SFits w32) a.0.inside (signed_reads file small m.1) r (record_inv (when_set (has_bit 1 m.0) m.1 (signed file m.1)) t1.1) in
      let t2 = then_inv (of_record (when_set (has_bit 2 m.0) r.1 (branches file r.1))) _ t1.2 in
      let s = t2.0 in
      let c = set_reads file small (has_bit 2 m.0) 2 r.1 (branches file r.1) written_branches BranchesFit b.0.inside (branches_reads file small r.1) s (record_inv (when_set (has_bit 2 m.0) r.1 (branches file r.1)) t2.1) in
      let t3 = then_inv (of_record (when_set (has_bit 4 m.0) s.1 (text file s.1))) _ t2.2 in
      let l = t3.0 in
      let d = set_reads file small (has_bit 4 m.0) 4 s.1 (text file s.1) written_text TextFits c.0.inside (text_reads file small s.1) l (record_inv (when_set (has_bit 4 m.0) s.1 (text file s.1)) t3.1) in
      let below : m.0 < 8 = omega (arith, map.1) in
      let bits : m.0 ≡ bit_of 1 r.0 + bit_of 2 s.0 + bit_of 4 l.0 =
      sym (ap₂ ◌+◌ (ap₂ ◌+◌ b.1 c.1) d.1 ∙ three_bits m.0 below) in
      subst (λ (v : ChoiceFields × ℕ). Stands file p (written_choice v.0) v.1 × ChoiceFits v.0) (ok_same t3.2) (
        stands_append (subst (λ (x : ℕ). Stands file p (bytes_of 1 x) m.1) bits a.0) (stands_append b.0 (stands_append c.0 d.0)),
        record { reward = b.2; branches = c.2; label = d.2 },
      )

  pub header_reads : (p : ℕ) (v : HeaderFields × ℕ) → header file p ≡ Ok v → Stands file p (written_header v.0) v.1 × HeaderFits v.0
  header_reads p v h =
      let t0 = then_inv (bit_map 3 file p) _ h in
      let m : ℕ × ℕ = t0.0 in
      let map = map_inv 3 file p m t0.1 in
      let a = number_reads file small 1 p m map.0 in
      let t1 = then_inv (of_record (when_set (has_bit 1 m.0) m.1 (number 4 file m.1))) _ t0.2 in
      let r = t1.0 in
      let b = set_reads file small (has_bit 1 m.0) 1 m.1 (number 4 file m.1) (bytes_of 4) FourBytes a.0.inside (number_reads file small 4 m.1) r (record_inv (when_set (has_bit 1 m.0) m.1 (number 4 file m.1)) t1.1) in
      let t2 = then_inv (of_record (when_set (has_bit 2 m.0) r.1 (text file r.1))) _ t1.2 in
      let s = t2.0 in
      let c = set_reads file small (has_bit 2 m.0) 2 r.1 (text file r.1) written_text TextFits b.0.inside (text_reads file small r.1) s (record_inv (when_set (has_bit 2 m.0) r.1 (text file r.1)) t2.1) in
      let t3 = then_inv (of_record (number 2 file s.1)) _ t2.2 in
      let n : ℕ × ℕ = t3.0 in
      let d = number_reads file small 2 s.1 n (record_inv (number 2 file s.1) t3.1) in
      let below : m.0 < 4 = omega (arith, map.1) in
      let bits : m.0 ≡ bit_of 1 r.0 + bit_of 2 s.0 = sym (ap₂ ◌+◌ b.1 c.1 ∙ two_bits m.0 below) in
      subst (λ (v : HeaderFields × ℕ). Stands file p (written_header v.0) v.1 × HeaderFits v.0) (ok_same t3.2) (
        stands_append (subst (λ (x : ℕ). Stands file p (bytes_of 1 x) m.1) bits a.0) (stands_append b.0 (stands_append c.0 d.0)),
        record { denominator = b.2; name = c.2; states = d.1 },
      )

  pub choices_read : (k p : ℕ) → p ≤ length file → (v : List ChoiceFields × ℕ) → choice_run k file p ≡ Ok v
      → Stands file p (flat_map written_choice v.0) v.1 × (length v.0 ≡ k) × AllByRecursion ChoiceFits v.0
  choices_read zero p room v h =
      subst (λ (v : List ChoiceFields × ℕ). Stands file p (flat_map written_choice v.0) v.1 × (length v.0 ≡ 0) × AllByRecursion ChoiceFits v.0) (ok_same h)
      (stands_none file p room, refl, tt)
  choices_read (suc k) p room v h =
      let t = then_inv (choice file p) _ h in
      let c : ChoiceFields × ℕ = t.0 in
      let s = then_inv (choice_run k file c.1) _ t.2 in
      let one = choice_reads p c t.1 in
      let more = choices_read k c.1 one.0.inside s.0 s.1 in
      subst (λ (v : List ChoiceFields × ℕ). Stands file p (flat_map written_choice v.0) v.1 × (length v.0 ≡ suc k) × AllByRecursion ChoiceFits v.0) (ok_same s.2)
      (stands_append one.0 more.0, ap suc more.1, (one.1, more.2))

  pub states_read : (n p : ℕ) → p ≤ length file → (v : List (List ChoiceFields) × ℕ) → state_run n file p ≡ Ok v
      → Stands file p (flat_map written_state v.0) v.1 × (length v.0 ≡ n) × AllByRecursion StateFits v.0
  states_read zero p room v h =
      subst (λ (v : List (List ChoiceFields) × ℕ). Stands file p (flat_map written_state v.0) v.1 × (length v.0 ≡ 0) × AllByRecursion StateFits v.0) (ok_same h)
      (stands_none file p room, refl, tt)
  states_read (suc n) p room v h =
      let t = then_inv (state file p) _ h in
      let k : ℕ × ℕ = t.0 in
      let count = number_reads file small 1 p k (record_inv (number 1 file p) t.1) in
      let s = then_inv (choice_run k.0 file k.1) _ t.2 in
      let cs : List ChoiceFields × ℕ = s.0 in
      let own = choices_read k.0 k.1 count.0.inside cs s.1 in
      let u = then_inv (state_run n file cs.1) _ s.2 in
      let more = states_read n cs.1 own.0.inside u.0 u.1 in
      let long : k.0 ≡ length cs.0 = sym own.1 in
      let few : length cs.0 < 2 ^ 8 = subst (λ (x : ℕ). x < 2 ^ 8) long count.1 in
      let one = stands_append (subst (λ (x : ℕ). Stands file p (bytes_of 1 x) k.1) long count.0) own.0 in
      subst (λ (v : List (List ChoiceFields) × ℕ). Stands file p (flat_map written_state v.0) v.1 × (length v.0 ≡ suc n) × AllByRecursion StateFits v.0) (ok_same u.2)
      (stands_append one more.0, ap suc more.1, ((few, own.2), more.2))

  -- an accepted file is what the writer writes for what was read, and that fits
  pub file_reads : (m : Model) → read_file file ≡ Ok m → (file ≡ written m) × ModelFits m × (length file ≤ 65536)
  file_reads m h =
      let t = test_inv (leb (length file) 65536) (and_then (of_file (header file 0)) (body file)) TooLong h in
      let t0 = then_inv (of_file (header file 0)) (body file) t.1 in
      let head : HeaderFields × ℕ = t0.0 in
      let a = header_reads 0 head (file_inv (header file 0) t0.1) in
      let t1 = then_inv (and_then (of_file (state_run head.0.states file head.1)) (at_end file)) _ t0.2 in
      let t2 = then_inv (of_file (state_run head.0.states file head.1)) (at_end file) t1.1 in
      let v : List (List ChoiceFields) × ℕ = t2.0 in
      let b = states_read head.0.states head.1 a.0.inside v (file_inv (state_run head.0.states file head.1) t2.1) in
      let e = end_inv (ltb v.1 (length file)) (Trailing v.1) v.0 t2.2 in
      let all = stands_append a.0 b.0 in
      let past : drop v.1 file ≡ [] = drop_all v.1 file (ltb-false v.1 (length file) e.0) in
      let whole : file ≡ written_header head.0 ++ flat_map written_state v.0 =
      all.bytes
      ∙ ap (λ (x : List ℕ). (written_header head.0 ++ flat_map written_state v.0) ++ x) past
      ∙ append-nil (written_header head.0 ++ flat_map written_state v.0) in
      let made : HeaderFields → ℕ → HeaderFields = λ h n. record { denominator = h.denominator; name = h.name; states = n } in
      let result : (n : ℕ) → n ≡ length v.0
      → file ≡ written_header (made head.0 n) ++ flat_map written_state v.0
      → TwoBytes n
      → (file ≡ written (record { denominator = head.0.denominator; name = head.0.name; states = v.0 }))
      × ModelFits (record { denominator = head.0.denominator; name = head.0.name; states = v.0 }) × (length file ≤ 65536) =
      λ n q w f. (
        w ∙ ap (λ (k : ℕ). written_header (made head.0 k) ++ flat_map written_state v.0) q,
        record { denominator = a.1.denominator; name = a.1.name; count = subst (λ (k : ℕ). k < 2 ^ 16) q f; states = b.2 },
        leb-true (length file) 65536 t.0,
      ) in
      let same : record { denominator = head.0.denominator; name = head.0.name; states = v.0 } ≡ m =
      ap (λ (ss : List (List ChoiceFields)). record { denominator = head.0.denominator; name = head.0.name; states = ss }) e.1 ∙ ok_same t1.2 in
      subst (λ (m : Model). (file ≡ written m) × ModelFits m × (length file ≤ 65536)) same
      (result head.0.states (sym b.1) whole a.1.states)
