-- A refusal on the way is that of the whole file, the way begins with the whole file, and each record moves on.
use Rattle.std.proofs.Common.{◌≡◌, ℕ, zero, suc, ◌+◌, ◌-◌, ◌<◌, ◌≤◌, Bool, true, false, cond, ltb, leb, List, [], ◌∷◌, ◌++◌, length, Some, None, Ok, Err, Option, Result, unwrap_or, sym, refl, ap, ◌∙◌, subst, arith}
use Rattle.std.proofs.lemmas.List.{length-append}
use Rattle.std.proofs.lemmas.Bool.{cond-true, le-leb}
use Rattle.std.specs.List.{flat_map}
use Rattle.std.specs.Option.{option_map}
use Rattle.sources.specs.declared.list.StateRow.{StateRow}
use Rattle.sources.specs.declared.list.ChoiceRow.{ChoiceRow}
use Rattle.modelfile.specs.Results.{Read, and_then, of_file}
use Rattle.modelfile.specs.Bytes.{number}
use Rattle.modelfile.specs.Records.{HeaderFields, ChoiceFields, Fields, of_header, of_state, of_choice, header, state, choice, fields_of}
use Rattle.modelfile.specs.File.{Model, choice_run, state_run, at_end, body, read_file}
use Rattle.modelfile.specs.Steps.{Cursor, standing, step}
use Rattle.modelfile.specs.Written.{written_signed, written_text, written_branch, written_branches, if_there, written_choice}
use Rattle.modelfile.specs.Lists.{branches_of, all_choices, state_rows, choice_rows, branch_rows}
use Rattle.modelfile.specs.Filling.{fill, size, counts, counted, Tally, tally, placed, filled}
use Rattle.modelfile.specs.declared.fault.RecordFault.{RecordFault}
use Rattle.modelfile.specs.declared.fault.FileFault.{FileFault}
use Rattle.modelfile.specs.declared.fault.FileFault.TheVariants.{Trailing, TooLong, Unread}
use Rattle.modelfile.specs.declared.loaded.Loaded.{Loaded}
use Rattle.modelfile.specs.declared.record.Record.{Record}
use Rattle.modelfile.proofs.Fields.{ok_same, then_err}
use Rattle.modelfile.proofs.Inverse.{err_ok, record_inv}
use Rattle.modelfile.proofs.Accepted.{Small, number_reads}
use Rattle.modelfile.proofs.AcceptedFile.{header_reads, choice_reads}
use Rattle.modelfile.proofs.Walk.{Left, after, left_run, ended, finish, Stepped, after_header, after_choice, after_state, step_choice, step_state, none_some}

module _ (file : List ℕ) where
  header_err : (t : Tally) (r : Read HeaderFields RecordFault) (e : FileFault) → and_then (of_file r) (after_header file) ≡ Err e
      → and_then (of_file r) (λ h. ended file (placed t (of_header h.0)) (left_run file 0 h.0.states h.1)) ≡ Err e
  header_err t (Ok h) e q = absurd (err_ok (sym q))
  header_err t (Err x) e q = cc

  choice_err : (t : Tally) (p n k : ℕ) (e : FileFault) (r : Read ChoiceFields RecordFault) → choice file p ≡ r
      → and_then (of_file r) (after_choice file n k) ≡ Err e → ended file t (left_run file (suc k) n p) ≡ Err e
  choice_err t p n k e (Ok c) h q = absurd (err_ok (sym q))
  choice_err t p n k e (Err x) h q =
      let run : choice_run (suc k) file p ≡ Err x = then_err (λ c. and_then (choice_run k file c.1) (λ cs. Ok (c.0 ∷ cs.0, cs.1))) h in
      let left : left_run file (suc k) n p ≡ Err x = then_err (λ cs. and_then (state_run n file cs.1) (λ ss. Ok ((cs.0, ss.0), ss.1))) run in
      let same : ◌≡◌ {A = Result Tally FileFault} (Err (Unread x)) (Err e) = cc in
      ap (ended file t) left ∙ same

  state_err : (t : Tally) (p n : ℕ) (e : FileFault) (r : Read ℕ RecordFault) → state file p ≡ r
      → and_then (of_file r) (after_state file n) ≡ Err e → ended file t (left_run file 0 (suc n) p) ≡ Err e
  state_err t p n e (Ok k) h q = absurd (err_ok (sym q))
  state_err t p n e (Err x) h q =
      let run : state_run (suc n) file p ≡ Err x =
      then_err (λ k. and_then (choice_run k.0 file k.1) (λ cs. and_then (state_run n file cs.1) (λ ss. Ok (cs.0 ∷ ss.0, ss.1)))) h in
      let left : left_run file 0 (suc n) p ≡ Err x = then_err (λ ss. Ok (([], ss.0), ss.1)) run in
      let same : ◌≡◌ {A = Result Tally FileFault} (Err (Unread x)) (Err e) = cc in
      ap (ended file t) left ∙ same

  end_err : (t : Tally) (b : Bool) (x e : FileFault) (c : Cursor) → ◌≡◌ {A = Result (Stepped file) FileFault} (cond b (Err x) (Ok (None, c))) (Err e)
      → and_then {A = Left} (cond b (Err x) (Ok ([], []))) (λ l. Ok (after t l)) ≡ Err e
  end_err t true x e c h = cc
  end_err t false x e c h = absurd (err_ok (sym h))

  err_on : (t : Tally) (begun : Bool) (p n k : ℕ) (e : FileFault) → step file (standing begun p n k) ≡ Err e → finish file (standing begun p n k) t ≡ Err e
  err_on t false p n k e h = header_err t (header file p) e h
  err_on t true p n (suc k) e h = choice_err t p n k e (choice file p) refl (sym (step_choice file p n k) ∙ h)
  err_on t true p (suc n) zero e h = state_err t p n e (state file p) refl (sym (step_state file p n) ∙ h)
  err_on t true p zero zero e h = end_err t (ltb p (length file)) (Trailing p) e (standing true p 0 0) h

  -- a refusal on the way is that of the whole
  pub finish_err : (t : Tally) (c : Cursor) (e : FileFault) → step file c ≡ Err e → finish file c t ≡ Err e
  finish_err t c e h = err_on t c.begun c.at c.states c.choices e h

  abbrev empty_tally : List StateRow → List ChoiceRow → List (ℕ × ℕ) → Tally
  empty_tally S C B = tally (counts 1 0 0 0) S C B

  start_states : (S : List StateRow) (C : List ChoiceRow) (B : List (ℕ × ℕ)) (h : HeaderFields) (r : Read (List (List ChoiceFields)) RecordFault)
      → ended file (placed (empty_tally S C B) (of_header h)) (and_then r (λ ss. Ok (([], ss.0), ss.1)))
      ≡ filled (and_then (and_then (of_file r) (at_end file)) (λ ss. Ok (record { denominator = h.denominator; name = h.name; states = ss }))) S C B
  start_states S C B h (Err e) = refl
  start_states S C B h (Ok v) =
      let W : ℕ = unwrap_or h.denominator 1 in
      let all : List (ℕ × ChoiceFields) = all_choices 0 v.0 in
      let e1 : 0 + length (state_rows 0 v.0) ≡ length (state_rows 0 v.0) = omega arith in
      let e2 : 0 + length (choice_rows W 0 all) ≡ length (choice_rows W 0 all) = omega arith in
      let e3 : 0 + length (branch_rows W all) ≡ length (branch_rows W all) = omega arith in
      let made : ℕ → ℕ → ℕ → Tally = λ s c b. tally (counts W s c b) (fill (state_rows 0 v.0) 0 S) (fill (choice_rows W 0 all) 0 C) (fill (branch_rows W all) 0 B) in
      let m : List (List ChoiceFields) → Model = λ ss. record { denominator = h.denominator; name = h.name; states = ss } in
      elim (ltb v.1 (length file)) as
      (λ b. and_then {A = Left} (cond b (Err (Trailing v.1)) (Ok ([], v.0))) (λ l. Ok (after (placed (empty_tally S C B) (of_header h)) l))
      ≡ filled (and_then {A = List (List ChoiceFields)} (cond b (Err (Trailing v.1)) (Ok v.0)) (λ ss. Ok (m ss))) S C B) [
        | true ↦ refl
        | false ↦ ap Ok
            (ap (λ (x : ℕ). made x (0 + length (choice_rows W 0 all)) (0 + length (branch_rows W all))) e1
            ∙ ap (λ (x : ℕ). made (length (state_rows 0 v.0)) x (0 + length (branch_rows W all))) e2
            ∙ ap (made (length (state_rows 0 v.0)) (length (choice_rows W 0 all))) e3)
      ]

  start_header : (S : List StateRow) (C : List ChoiceRow) (B : List (ℕ × ℕ)) (r : Read HeaderFields RecordFault)
      → and_then (of_file r) (λ h. ended file (placed (empty_tally S C B) (of_header h.0)) (left_run file 0 h.0.states h.1))
      ≡ filled (and_then (of_file r) (body file)) S C B
  start_header S C B (Ok h) = start_states S C B h.0 (state_run h.0.states file h.1)
  start_header S C B (Err e) = refl

  -- a reader at the start has the whole file before it
  pub finish_start : (S : List StateRow) (C : List ChoiceRow) (B : List (ℕ × ℕ)) → length file ≤ 65536
      → finish file (standing false 0 0 0) (tally (counts 1 0 0 0) S C B) ≡ filled (read_file file) S C B
  finish_start S C B h =
      start_header S C B (header file 0)
      ∙ ap (λ (r : Result Model FileFault). filled r S C B) (sym (cond-true (leb (length file) 65536) (and_then (of_file (header file 0)) (body file)) (Err TooLong) (le-leb (length file) 65536 h)))

-- A record moves the reader on, by at least as many bytes as it adds rows to a list.

branches_long : (bs : List (ℕ × ℕ)) → length bs ≤ length (flat_map written_branch bs)
branches_long [] = omega arith
branches_long (b ∷ bs) = let e = branches_long bs in omega arith

there_long : (o : Option (List (ℕ × ℕ))) → length (unwrap_or o ((0, 0) ∷ [])) ≤ 1 + length (if_there written_branches o)
there_long None = omega arith
there_long (Some bs) = let e = branches_long bs in omega arith

choice_long : (c : ChoiceFields) → length (branches_of 0 0 c) ≤ length (written_choice c)
choice_long c =
    let a = length-append (if_there written_signed c.reward) (if_there written_branches c.branches ++ if_there written_text c.label) in
    let b = length-append (if_there written_branches c.branches) (if_there written_text c.label) in
    let d = there_long c.branches in
    omega arith

abbrev pub Moved : List ℕ → ℕ → Fields → Cursor → Type 0
Moved file p f d = (p < d.at) × (d.at ≤ length file) × (p + size 0 0 f ≤ d.at)

module _ (file : List ℕ) (small : Small file) where
  same_moved : (p : ℕ) (f g : Fields) (c d : Cursor) → ◌≡◌ {A = Result (Stepped file) FileFault} (Ok (Some g, d)) (Ok (Some f, c)) → Moved file p g d → Moved file p f c
  same_moved p f g c d h m =
      let e : ◌≡◌ {A = Stepped file} (Some g, d) (Some f, c) = ok_same h in
      let place : d ≡ c = ap (λ (v : Stepped file). v.1) e in
      let some : Some g ≡ Some f = ap (λ (v : Stepped file). v.0) e in
      let fields : g ≡ f = cc in
      subst (λ (x : Cursor). Moved file p f x) place (subst (λ (y : Fields). Moved file p y d) fields m)

  header_moves : (p : ℕ) (f : Fields) (d : Cursor) (r : Read HeaderFields RecordFault) → header file p ≡ r → and_then (of_file r) (after_header file) ≡ Ok (Some f, d) → Moved file p f d
  header_moves p f d (Ok h) q e =
      let s = (header_reads file small p h q).0 in
      let at = s.place in
      same_moved p f (of_header h.0) d (standing true h.1 h.0.states 0) e (omega arith, s.inside, omega arith)
  header_moves p f d (Err x) q e = absurd (err_ok e)

  choice_moves : (p n k : ℕ) (f : Fields) (d : Cursor) (r : Read ChoiceFields RecordFault) → choice file p ≡ r → and_then (of_file r) (after_choice file n k) ≡ Ok (Some f, d) → Moved file p f d
  choice_moves p n k f d (Ok c) q e =
      let s = (choice_reads file small p c q).0 in
      let at = s.place in
      let long = choice_long c.0 in
      same_moved p f (of_choice c.0) d (standing true c.1 n k) e (omega arith, s.inside, omega arith)
  choice_moves p n k f d (Err x) q e = absurd (err_ok e)

  state_moves : (p n : ℕ) (f : Fields) (d : Cursor) (r : Read ℕ RecordFault) → state file p ≡ r → and_then (of_file r) (after_state file n) ≡ Ok (Some f, d) → Moved file p f d
  state_moves p n f d (Ok k) q e =
      let s = (number_reads file small 1 p k (record_inv (number 1 file p) q)).0 in
      let at = s.place in
      same_moved p f (of_state k.0) d (standing true k.1 n k.0) e (omega arith, s.inside, omega arith)
  state_moves p n f d (Err x) q e = absurd (err_ok e)

  moves_on : (begun : Bool) (p n k : ℕ) (f : Fields) (d : Cursor) → step file (standing begun p n k) ≡ Ok (Some f, d) → Moved file p f d
  moves_on false p n k f d h = header_moves p f d (header file p) refl h
  moves_on true p n (suc k) f d h = choice_moves p n k f d (choice file p) refl (sym (step_choice file p n k) ∙ h)
  moves_on true p (suc n) zero f d h = state_moves p n f d (state file p) refl (sym (step_state file p n) ∙ h)
  moves_on true p zero zero f d h = absurd (none_some file (ltb p (length file)) (Trailing p) (standing true p 0 0) d f h)

  pub step_moves : (c d : Cursor) (f : Fields) → step file c ≡ Ok (Some f, d) → Moved file c.at f d
  step_moves c d f h = moves_on c.begun c.at c.states c.choices f d h

-- no count passes the reader's place
abbrev pub Under : Loaded → ℕ → Type 0
Under t p = (t.states ≤ p) × (t.choices ≤ p) × (t.branches ≤ p)

size_same : (o : Option (List (ℕ × ℕ))) (x y : ℕ × ℕ) → length (unwrap_or o (x ∷ [])) ≡ length (unwrap_or o (y ∷ []))
size_same None x y = refl
size_same (Some bs) x y = refl

pub under_more : (t : Loaded) (p : ℕ) (f : Fields) (q : ℕ) → Under t p → p < q → p + size 0 0 f ≤ q → Under (counted t f) q
under_more t p (of_header h) q u a b = (omega arith, omega arith, omega arith)
under_more t p (of_state k) q u a b = (omega arith, omega arith, omega arith)
under_more t p (of_choice c) q u a b =
    let e = size_same c.branches (t.states - 1, t.denominator) (0, 0) in
    (omega arith, omega arith, omega arith)

-- what a call of the reader handed out, as a step through the file
pub item_step : (file held : List ℕ) (c d : Cursor) (o : Option Record) (item : Record) → held ≡ file
    → ◌≡◌ {A = Result (Option Fields × Cursor) FileFault} (Ok (option_map fields_of o, d)) (step held c) → o ≡ Some item → step file c ≡ Ok (Some (fields_of item), d)
item_step file held c d o item h e s =
    ap (λ (f : List ℕ). step f c) (sym h) ∙ sym e ∙ ap (λ (o : Option Record). Ok (option_map fields_of o, d)) s
