-- What stands before a refusal's place is the beginning of a well-formed file.
use Rattle.std.proofs.Common.{◌≡◌, ℕ, zero, suc, ◌+◌, ◌^◌, ◌<◌, ◌≤◌, Bool, true, false, cond, ltb, leb, List, [], ◌∷◌, ◌++◌, length, take, drop, replicate, Some, None, Ok, Err, Option, Result, sym, refl, ap, ◌∙◌, subst, ap₂, arith, w32, SFits, to_z}
use mir.Facts.{sfits_to_z}
use Rattle.std.proofs.lemmas.List.{append_assoc, append-nil, take_at}
use Rattle.std.proofs.lemmas.Bool.{leb-true}
use Rattle.std.specs.List.{flat_map}
use Rattle.modelfile.specs.Results.{Read, and_then, of_record, of_file, when_set}
use Rattle.modelfile.specs.Bytes.{number, signed, text, branches}
use Rattle.modelfile.specs.Records.{HeaderFields, ChoiceFields, has_bit, bit_map, header, state, choice}
use Rattle.modelfile.specs.File.{Model, choice_run, state_run, at_end, body, read_file}
use Rattle.modelfile.specs.Written.{bytes_of, written_signed, written_text, written_branches, if_there, bit_of, written_choice, written_state, written, TwoBytes, FourBytes, TextFits, BranchesFit, ChoiceFits, StateFits, ModelFits}
use Rattle.modelfile.specs.Faults.{notice_of}
use Rattle.modelfile.specs.Law.{Begins}
use Rattle.modelfile.specs.declared.fault.RecordFault.{RecordFault}
use Rattle.modelfile.specs.declared.fault.RecordFault.TheVariants.{Bytes, UnknownBit}
use Rattle.modelfile.specs.declared.fault.ByteFault.TheVariants.{Lacking}
use Rattle.modelfile.specs.declared.fault.FileFault.{FileFault}
use Rattle.modelfile.specs.declared.fault.FileFault.TheVariants.{Unread, Trailing, TooLong}
use Rattle.modelfile.proofs.Inverse.{record_inv, map_inv}
use Rattle.modelfile.proofs.Accepted.{Stands, stands_none, stands_append, Small, number_reads, signed_reads, text_reads, branches_reads, set_reads}
use Rattle.modelfile.proofs.AcceptedFile.{two_bits, three_bits, written_header, HeaderFits, header_reads, choice_reads, choices_read, states_read}
use Rattle.modelfile.proofs.RestoredFile.{file_restores}
use Rattle.modelfile.proofs.Begun.{err_same, ok_err, record_at, Many, many_same, AsSet, if_set, if-set, Begun, begun_none, begun_within, Stops, then_stops, of-record, set_stops, number_stops, signed_stops, run_stops, counted, text_stops, branches_stops}

-- what fills in a part that is not reached: no fields, no choices, no states
abbrev no_choice : ChoiceFields
no_choice = record { reward = None; branches = None; label = None }

no_choice_fits : ChoiceFits no_choice
no_choice_fits = record { reward = tt; branches = tt; label = tt }

abbrev no_state : List ChoiceFields
no_state = []

no_state_fits : StateFits no_state
no_state_fits = (omega arith, tt)

abbrev no_header : HeaderFields
no_header = record { denominator = None; name = None; states = 0 }

no_header_fits : HeaderFits no_header
no_header_fits = record { denominator = tt; name = tt; states = omega arith }

zero_fits : SFits w32 (to_z w32 0)
zero_fits = sfits_to_z {n = 0} (record { fits = omega arith })

empty_text : TextFits []
empty_text = (omega arith, tt)

empty_branches : BranchesFit []
empty_branches = (omega arith, tt)

-- the choice of three fields and the map m of their bits
choice_made : (m : ℕ) → m < 8 → (c : ChoiceFields)
    → AsSet 1 (has_bit 1 m) (SFits w32) c.reward → AsSet 2 (has_bit 2 m) BranchesFit c.branches → AsSet 4 (has_bit 4 m) TextFits c.label
    → ChoiceFits c × (written_choice c ≡ bytes_of 1 m ++ (if_there written_signed c.reward ++ (if_there written_branches c.branches ++ if_there written_text c.label)))
choice_made m h c r b l = (
  record { reward = r.1; branches = b.1; label = l.1 },
  ap (λ (x : ℕ). bytes_of 1 x ++ (if_there written_signed c.reward ++ (if_there written_branches c.branches ++ if_there written_text c.label)))
      (ap₂ ◌+◌ (ap₂ ◌+◌ r.0 b.0) l.0 ∙ three_bits m h),
)

-- the header of two fields, the map m of their bits, and a number of states
header_made : (m : ℕ) → m < 4 → (v : HeaderFields)
    → AsSet 1 (has_bit 1 m) FourBytes v.denominator → AsSet 2 (has_bit 2 m) TextFits v.name → TwoBytes v.states
    → HeaderFits v × (written_header v ≡ bytes_of 1 m ++ (if_there (bytes_of 4) v.denominator ++ (if_there written_text v.name ++ bytes_of 2 v.states)))
header_made m h v d t n = (
  record { denominator = d.1; name = t.1; states = n },
  ap (λ (x : ℕ). bytes_of 1 x ++ (if_there (bytes_of 4) v.denominator ++ (if_there written_text v.name ++ bytes_of 2 v.states)))
      (ap₂ ◌+◌ d.0 t.0 ∙ two_bits m h),
)

-- the model of a header and as many states as it says
abbrev model_of : HeaderFields → List (List ChoiceFields) → Model
model_of h ss = record { denominator = h.denominator; name = h.name; states = ss }

model_made : (h : HeaderFields) (ss : List (List ChoiceFields)) → HeaderFits h → Many StateFits h.states ss
    → ModelFits (model_of h ss) × (written (model_of h ss) ≡ written_header h ++ flat_map written_state ss)
model_made h ss fit all = (
  record { denominator = fit.denominator; name = fit.name; count = subst TwoBytes (sym all.0) fit.states; states = all.1 },
  ap (λ (n : ℕ). (bytes_of 1 (bit_of 1 h.denominator + bit_of 2 h.name) ++ (if_there (bytes_of 4) h.denominator ++ (if_there written_text h.name ++ bytes_of 2 n))) ++ flat_map written_state ss) all.0,
)

-- bytes in two and three parts
two_parts : (a b c d : List ℕ) → a ++ (b ++ (c ++ d)) ≡ (a ++ b) ++ (c ++ d)
two_parts a b c d = simp append_assoc

three_parts : (a b c d : List ℕ) → a ++ (b ++ (c ++ d)) ≡ (a ++ (b ++ c)) ++ (d ++ [])
three_parts a b c d = simp (append_assoc, append-nil)

module _ (file : List ℕ) (small : Small file) where
  -- a bit map stops at its start, whether its byte lacks or a bit is unknown
  map_stops : {A : Type 0} (every p : ℕ) (write : A → List ℕ) (Fit : A → Type 0) → p ≤ length file → (v : A) → Fit v
      → Stops file record_at p (bit_map every file p) write Fit
  map_stops every p write Fit h v fit =
      then_stops file record_at p (of_record (number 1 file p)) _ write Fit
      (of-record file p (number 1 file p) write Fit (number_stops file 1 p write Fit h v fit)) (λ m _. tested (leb m.0 every) m)
    where
      tested : (b : Bool) (m : ℕ × ℕ) → Stops file record_at p (cond b (Ok m) (Err (UnknownBit p))) write Fit
      tested true m e q = absurd (ok_err q)
      tested false m e q =
          let s : UnknownBit p ≡ e = err_same q in
          subst (λ (y : RecordFault). Begun file p (record_at y) write Fit) s (begun_none file p h v fit)

  choice_stops : (p : ℕ) → p ≤ length file → Stops file record_at p (choice file p) written_choice ChoiceFits
  choice_stops p h =
      then_stops file record_at p (bit_map 7 file p) _ written_choice ChoiceFits
      (map_stops 7 p written_choice ChoiceFits h no_choice no_choice_fits) (λ m q0.
      let map = map_inv 7 file p m q0 in
      let a = number_reads file small 1 p m map.0 in
      let b1 : Bool = has_bit 1 m.0 in
      let b2 : Bool = has_bit 2 m.0 in
      let b4 : Bool = has_bit 4 m.0 in
      let below : m.0 < 8 = omega (arith, map.1) in
      let part1 = when_set b1 m.1 (signed file m.1) in
      let noBranches : Option (List (ℕ × ℕ)) = if_set b2 [] in
      let no_label : Option (List ℕ) = if_set b4 [] in
      let ok2 = if-set 2 b2 BranchesFit [] empty_branches in
      let ok4 = if-set 4 b4 TextFits [] empty_text in
      then_stops file record_at p (of_record part1) _ written_choice ChoiceFits
      (of-record file p part1 written_choice ChoiceFits (λ e q.
      let s = set_stops file b1 1 m.1 (signed file m.1) written_signed (SFits w32) (signed_stops file m.1 written_signed (SFits w32) a.0.inside (to_z w32 0) zero_fits) e q in
      let v : ChoiceFields = record { reward = s.value; branches = noBranches; label = no_label } in
      let made = choice_made m.0 below v s.fits ok2 ok4 in
      begun_within file (bytes_of 1 m.0) (if_there written_branches noBranches ++ if_there written_text no_label) a.0 s v made.0 made.1)) (λ r q1.
      let b = set_reads file small b1 1 m.1 (signed file m.1) written_signed (SFits w32) a.0.inside (signed_reads file small m.1) r (record_inv part1 q1) in
      let part2 = when_set b2 r.1 (branches file r.1) in
      then_stops file record_at p (of_record part2) _ written_choice ChoiceFits
      (of-record file p part2 written_choice ChoiceFits (λ e q.
      let s = set_stops file b2 2 r.1 (branches file r.1) written_branches BranchesFit (branches_stops file small r.1 b.0.inside) e q in
      let v : ChoiceFields = record { reward = r.0; branches = s.value; label = no_label } in
      let made = choice_made m.0 below v (b.1, b.2) s.fits ok4 in
      begun_within file (bytes_of 1 m.0 ++ if_there written_signed r.0) (if_there written_text no_label) (stands_append a.0 b.0) s v made.0
      (made.1 ∙ two_parts (bytes_of 1 m.0) (if_there written_signed r.0) (if_there written_branches s.value) (if_there written_text no_label)))) (λ t q2.
      let c = set_reads file small b2 2 r.1 (branches file r.1) written_branches BranchesFit b.0.inside (branches_reads file small r.1) t (record_inv part2 q2) in
      let part3 = when_set b4 t.1 (text file t.1) in
      then_stops file record_at p (of_record part3) _ written_choice ChoiceFits
      (of-record file p part3 written_choice ChoiceFits (λ e q.
      let s = set_stops file b4 4 t.1 (text file t.1) written_text TextFits (text_stops file small t.1 c.0.inside) e q in
      let v : ChoiceFields = record { reward = r.0; branches = t.0; label = s.value } in
      let made = choice_made m.0 below v (b.1, b.2) (c.1, c.2) s.fits in
      begun_within file (bytes_of 1 m.0 ++ (if_there written_signed r.0 ++ if_there written_branches t.0)) [] (stands_append a.0 (stands_append b.0 c.0)) s v made.0
      (made.1 ∙ three_parts (bytes_of 1 m.0) (if_there written_signed r.0) (if_there written_branches t.0) (if_there written_text s.value)))) (λ l _ e q. absurd (ok_err q)))))

  header_stops : (p : ℕ) → p ≤ length file → Stops file record_at p (header file p) written_header HeaderFits
  header_stops p h =
      then_stops file record_at p (bit_map 3 file p) _ written_header HeaderFits
      (map_stops 3 p written_header HeaderFits h no_header no_header_fits) (λ m q0.
      let map = map_inv 3 file p m q0 in
      let a = number_reads file small 1 p m map.0 in
      let b1 : Bool = has_bit 1 m.0 in
      let b2 : Bool = has_bit 2 m.0 in
      let below : m.0 < 4 = omega (arith, map.1) in
      let part1 = when_set b1 m.1 (number 4 file m.1) in
      let noName : Option (List ℕ) = if_set b2 [] in
      then_stops file record_at p (of_record part1) _ written_header HeaderFits
      (of-record file p part1 written_header HeaderFits (λ e q.
      let s = set_stops file b1 1 m.1 (number 4 file m.1) (bytes_of 4) FourBytes (number_stops file 4 m.1 (bytes_of 4) FourBytes a.0.inside 0 (omega arith)) e q in
      let v : HeaderFields = record { denominator = s.value; name = noName; states = 0 } in
      let made = header_made m.0 below v s.fits (if-set 2 b2 TextFits [] empty_text) (omega arith) in
      begun_within file (bytes_of 1 m.0) (if_there written_text noName ++ bytes_of 2 0) a.0 s v made.0 made.1)) (λ r q1.
      let b = set_reads file small b1 1 m.1 (number 4 file m.1) (bytes_of 4) FourBytes a.0.inside (number_reads file small 4 m.1) r (record_inv part1 q1) in
      let part2 = when_set b2 r.1 (text file r.1) in
      then_stops file record_at p (of_record part2) _ written_header HeaderFits
      (of-record file p part2 written_header HeaderFits (λ e q.
      let s = set_stops file b2 2 r.1 (text file r.1) written_text TextFits (text_stops file small r.1 b.0.inside) e q in
      let v : HeaderFields = record { denominator = r.0; name = s.value; states = 0 } in
      let made = header_made m.0 below v (b.1, b.2) s.fits (omega arith) in
      begun_within file (bytes_of 1 m.0 ++ if_there (bytes_of 4) r.0) (bytes_of 2 0) (stands_append a.0 b.0) s v made.0
      (made.1 ∙ two_parts (bytes_of 1 m.0) (if_there (bytes_of 4) r.0) (if_there written_text s.value) (bytes_of 2 0)))) (λ t q2.
      let c = set_reads file small b2 2 r.1 (text file r.1) written_text TextFits b.0.inside (text_reads file small r.1) t (record_inv part2 q2) in
      then_stops file record_at p (of_record (number 2 file t.1)) _ written_header HeaderFits
      (of-record file p (number 2 file t.1) written_header HeaderFits (λ e q.
      let s = number_stops file 2 t.1 (bytes_of 2) TwoBytes c.0.inside 0 (omega arith) e q in
      let v : HeaderFields = record { denominator = r.0; name = t.0; states = s.value } in
      let made = header_made m.0 below v (b.1, b.2) (c.1, c.2) s.fits in
      begun_within file (bytes_of 1 m.0 ++ (if_there (bytes_of 4) r.0 ++ if_there written_text t.0)) [] (stands_append a.0 (stands_append b.0 c.0)) s v made.0
      (made.1 ∙ three_parts (bytes_of 1 m.0) (if_there (bytes_of 4) r.0) (if_there written_text t.0) (bytes_of 2 s.value)))) (λ l _ e q. absurd (ok_err q)))))

  choices_stop : (k p : ℕ) → p ≤ length file → Stops file record_at p (choice_run k file p) (flat_map written_choice) (Many ChoiceFits k)
  choices_stop zero p h = λ e q. absurd (ok_err q)
  choices_stop (suc k) p h =
      run_stops file record_at k p (choice file p) (choice_run k file) written_choice ChoiceFits no_choice no_choice_fits h (choice_stops p h) (choice_reads file small p) (λ v. choices_stop k v.1)

  states_stop : (n p : ℕ) → p ≤ length file → Stops file record_at p (state_run n file p) (flat_map written_state) (Many StateFits n)
  states_stop zero p h = λ e q. absurd (ok_err q)
  states_stop (suc n) p h =
      let others : List (List ChoiceFields) = replicate n no_state in
      let fill = many_same StateFits n no_state no_state_fits in
      then_stops file record_at p (state file p) _ (flat_map written_state) (Many StateFits (suc n))
      (of-record file p (number 1 file p) (flat_map written_state) (Many StateFits (suc n))
      (number_stops file 1 p (flat_map written_state) (Many StateFits (suc n)) h (no_state ∷ others) (ap suc fill.0, (no_state_fits, fill.1)))) (λ k q0.
      let a = number_reads file small 1 p k (record_inv (number 1 file p) q0) in
      then_stops file record_at p (choice_run k.0 file k.1) _ (flat_map written_state) (Many StateFits (suc n))
      (λ e q.
      let s = counted file k.0 (flat_map written_choice) ChoiceFits a.1 a.0 (choices_stop k.0 k.1 a.0.inside e q) in
      begun_within file [] (flat_map written_state others) (stands_none file p h) s (s.value ∷ others) (ap suc fill.0, (s.fits, fill.1)) refl) (λ cs q1.
      let b = choices_read file small k.0 k.1 a.0.inside cs q1 in
      let long : k.0 ≡ length cs.0 = sym b.1 in
      let few : length cs.0 < 2 ^ 8 = subst (λ (x : ℕ). x < 2 ^ 8) long a.1 in
      let one = stands_append (subst (λ (x : ℕ). Stands file p (bytes_of 1 x) k.1) long a.0) b.0 in
      then_stops file record_at p (state_run n file cs.1) _ (flat_map written_state) (Many StateFits (suc n))
      (λ e q.
      let s = states_stop n cs.1 b.0.inside e q in
      begun_within file (written_state cs.0) [] one s (cs.0 ∷ s.value) (ap suc s.fits.0, ((few, b.2), s.fits.1))
      (ap (λ (x : List ℕ). written_state cs.0 ++ x) (sym (append-nil (flat_map written_state s.value))))) (λ ss _ e q. absurd (ok_err q))))

  -- what stands before a notice's place is begun, and before a byte too many it is whole
  abbrev Found : ℕ → ℕ → Type 0
  Found number p = (s : Begun file 0 p written ModelFits) × (number ≡ 33 → s.after ≡ [])

  abbrev Placed : FileFault → Type 0
  Placed e = (p : ℕ) → (notice_of e).place ≡ Some p → Found (notice_of e).number p

  some_same : {p q : ℕ} → ◌≡◌ {A = Option ℕ} (Some p) (Some q) → p ≡ q
  some_same h = cc

  unread : (x : RecordFault) → Begun file 0 (record_at x) written ModelFits → Placed (Unread x)
  unread (Bytes (Lacking at)) s p q = subst (Found 31) (some_same q) (s, λ n. absurd (omega arith))
  unread (UnknownBit at) s p q = subst (Found 32) (some_same q) (s, λ n. absurd (omega arith))

  of-file : {A B : Type 0} (r : Read A RecordFault) (next : A × ℕ → Result B FileFault) → Stops file record_at 0 r written ModelFits
      → ((a : A × ℕ) → r ≡ Ok a → (e : FileFault) → next a ≡ Err e → Placed e) → (e : FileFault) → and_then (of_file r) next ≡ Err e → Placed e
  of-file (Ok a) next h k e q = k a refl e q
  of-file (Err x) next h k e q = subst Placed (err_same q) (unread x (h x refl))

  end_found : {A : Type 0} (v : A × ℕ) (b : Bool) → Found 33 v.1 → (e : FileFault) → cond b (Err (Trailing v.1)) (Ok v.0) ≡ Err e → Placed e
  end_found v true s e q = subst Placed (err_same q) (λ p t. subst (Found 33) (some_same t) s)
  end_found v false s e q = absurd (ok_err q)

  then_file : {A B : Type 0} (r : Result A FileFault) (next : A → B) → ((e : FileFault) → r ≡ Err e → Placed e)
      → (e : FileFault) → and_then {E = FileFault} r (λ a. Ok (next a)) ≡ Err e → Placed e
  then_file (Ok a) next h e q = absurd (ok_err q)
  then_file (Err x) next h e q = subst Placed (err_same q) (h x refl)

  too_long : (b : Bool) (r : Result Model FileFault) → ((e : FileFault) → r ≡ Err e → Placed e) → (e : FileFault) → cond b r (Err TooLong) ≡ Err e → Placed e
  too_long true r h e q = h e q
  too_long false r h e q =
      subst Placed (err_same q) (λ p s. let z : ◌≡◌ {A = ℕ} 0 1 = cc in absurd (omega arith))

  found : (e : FileFault) → read_file file ≡ Err e → Placed e
  found e q =
      too_long (leb (length file) 65536) (and_then (of_file (header file 0)) (body file))
      (of-file (header file 0) (body file)
      (λ x f.
      let s = header_stops 0 (omega arith) x f in
      let n : ℕ = s.value.states in
      let made = model_made s.value (replicate n no_state) s.fits (many_same StateFits n no_state no_state_fits) in
      begun_within file [] (flat_map written_state (replicate n no_state)) (stands_none file 0 (omega arith)) s (model_of s.value (replicate n no_state)) made.0 made.1)
      (λ h q0.
      let a = header_reads file small 0 h q0 in
      then_file (and_then (of_file (state_run h.0.states file h.1)) (at_end file)) (model_of h.0)
      (of-file (state_run h.0.states file h.1) (at_end file)
      (λ x f.
      let s = states_stop h.0.states h.1 a.0.inside x f in
      let made = model_made h.0 s.value a.1 s.fits in
      begun_within file (written_header h.0) [] a.0 s (model_of h.0 s.value) made.0
      (made.1 ∙ ap (λ (x : List ℕ). written_header h.0 ++ x) (sym (append-nil (flat_map written_state s.value)))))
      (λ v q1.
      let b = states_read file small h.0.states h.1 a.0.inside v q1 in
      let made = model_made h.0 v.0 a.1 (b.1, b.2) in
      let bytes : List ℕ = written_header h.0 ++ flat_map written_state v.0 in
      end_found v (ltb v.1 (length file)) (
        record {
          value = model_of h.0 v.0;
          fits = made.0;
          before = bytes;
          after = [];
          parts = made.1 ∙ sym (append-nil bytes);
          stands = stands_append a.0 b.0;
        },
        λ _. refl,
      )))))
      e q

  pub placed_inside : (e : FileFault) → read_file file ≡ Err e → (p : ℕ) → (notice_of e).place ≡ Some p → p ≤ length file
  placed_inside e q p at = (found e q p at).0.stands.inside

  front : {p : ℕ} (bs : List ℕ) → Stands file 0 bs p → take p file ≡ bs
  front {p} bs s = ap (take p) s.bytes ∙ take_at bs (drop p file) p (let e = s.place in omega arith)

  pub placed_begun : (e : FileFault) → read_file file ≡ Err e → (p : ℕ) → (notice_of e).place ≡ Some p → Begins file p
  placed_begun e q p at =
      let s = (found e q p at).0 in
      record {
        model = s.value;
        fits = s.fits;
        more = s.after;
        begins = s.parts ∙ ap (λ (x : List ℕ). x ++ s.after) (sym (front s.before s.stands));
      }

  not_too_long : (b : Bool) (r : Result Model FileFault) (p : ℕ) → cond b r (Err TooLong) ≡ Err (Trailing p) → b ≡ true
  not_too_long true r p q = refl
  not_too_long false r p q = let s : TooLong ≡ Trailing p = err_same q in let z : ◌≡◌ {A = ℕ} 0 1 = cc in absurd (omega arith)

  pub trailing_whole : (p : ℕ) → read_file file ≡ Err (Trailing p) → (m : Model) × ModelFits m × (take p file ≡ written m) × (read_file (take p file) ≡ Ok m)
  trailing_whole p q =
      let f = found (Trailing p) q p refl in
      let s = f.0 in
      let whole : s.before ≡ written s.value =
      sym (s.parts ∙ ap (λ (x : List ℕ). s.before ++ x) (f.1 refl) ∙ append-nil s.before) in
      let same : take p file ≡ written s.value = front s.before s.stands ∙ whole in
      let few : length file ≤ 65536 = leb-true (length file) 65536 (not_too_long (leb (length file) 65536) (and_then (of_file (header file 0)) (body file)) p q) in
      let place = s.stands.place in
      let inside = s.stands.inside in
      let long : length s.before ≡ length (written s.value) = ap length whole in
      (s.value, s.fits, same, ap read_file same ∙ file_restores s.value s.fits (omega arith))
