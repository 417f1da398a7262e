-- What is left to read from a reader's place on, and the lists that it leads to.
use Rattle.std.proofs.Common.{◌≡◌, ℕ, zero, suc, ◌+◌, ◌-◌, Bool, true, false, cond, ltb, List, [], ◌∷◌, ◌++◌, length, set, Some, None, Ok, Err, Option, Result, sym, refl, ap, ◌∙◌, ap₂, arith}
use Rattle.std.proofs.lemmas.List.{length-append}
use Rattle.std.proofs.lemmas.Bool.{lt-ltb}
use Rattle.modelfile.specs.Results.{Read, and_then, of_file}
use Rattle.modelfile.specs.Records.{HeaderFields, ChoiceFields, Fields, of_header, of_state, of_choice, header, state, choice}
use Rattle.modelfile.specs.File.{choice_run, state_run, at_end}
use Rattle.modelfile.specs.Steps.{Cursor, standing, step}
use Rattle.modelfile.specs.Lists.{branches_of, choices_of, all_choices, state_rows, choice_rows, branch_rows}
use Rattle.modelfile.specs.Filling.{fill, counts, Tally, tally, placed}
use Rattle.modelfile.specs.declared.fault.RecordFault.{RecordFault}
use Rattle.modelfile.specs.declared.fault.FileFault.{FileFault}
use Rattle.modelfile.specs.declared.fault.FileFault.TheVariants.{Trailing}
use Rattle.modelfile.proofs.Fields.{ok_same, then_ok}
use Rattle.modelfile.proofs.Inverse.{err_ok, then_inv}

-- rows in two parts
pub fill_append : {X : Type 0} (xs ys : List X) (at : ℕ) (list : List X) → fill (xs ++ ys) at list ≡ fill ys (at + length xs) (fill xs at list)
fill_append [] ys at list = let e : at ≡ at + 0 = omega arith in ap (λ (n : ℕ). fill ys n list) e
fill_append (x ∷ xs) ys at list =
    let e : suc at + length xs ≡ at + suc (length xs) = omega arith in
    fill_append xs ys (suc at) (set list at x) ∙ ap (λ (n : ℕ). fill ys n (fill xs (suc at) (set list at x))) e

-- the choices of the present state and the states that are left
abbrev pub Left : Type 0
Left = List ChoiceFields × List (List ChoiceFields)

abbrev left_choices : Tally → Left → List (ℕ × ChoiceFields)
left_choices t l = choices_of (t.counts.states - 1) l.0 ++ all_choices t.counts.states l.1

-- the counts and the lists once these are put in too
abbrev pub after : Tally → Left → Tally
after t l =
    tally
    (counts t.counts.denominator
    (t.counts.states + length (state_rows (t.counts.choices + length l.0) l.1))
    (t.counts.choices + length (choice_rows t.counts.denominator t.counts.branches (left_choices t l)))
    (t.counts.branches + length (branch_rows t.counts.denominator (left_choices t l))))
    (fill (state_rows (t.counts.choices + length l.0) l.1) t.counts.states t.states)
    (fill (choice_rows t.counts.denominator t.counts.branches (left_choices t l)) t.counts.choices t.choices)
    (fill (branch_rows t.counts.denominator (left_choices t l)) t.counts.branches t.branches)

after-choice : (t : Tally) (c : ChoiceFields) (cs : List ChoiceFields) (ss : List (List ChoiceFields))
    → after t (c ∷ cs, ss) ≡ after (placed t (of_choice c)) (cs, ss)
after-choice t c cs ss =
    let W : ℕ = t.counts.denominator in
    let s : ℕ = t.counts.states in
    let n : ℕ = t.counts.choices in
    let b : ℕ = t.counts.branches in
    let bs : List (ℕ × ℕ) = branches_of W (s - 1) c in
    let rest : List (ℕ × ChoiceFields) = choices_of (s - 1) cs ++ all_choices s ss in
    let e1 : n + suc (length cs) ≡ n + 1 + length cs = omega arith in
    let e2 : n + suc (length (choice_rows W (b + length bs) rest)) ≡ n + 1 + length (choice_rows W (b + length bs) rest) = omega arith in
    let a = length-append bs (branch_rows W rest) in
    let e3 : b + length (bs ++ branch_rows W rest) ≡ b + length bs + length (branch_rows W rest) = omega arith in
    let e4 : suc n ≡ n + 1 = omega arith in
    let e5 = fill_append bs (branch_rows W rest) b t.branches in
    cc

after-state : (t : Tally) (k : ℕ) (cs : List ChoiceFields) (ss : List (List ChoiceFields)) → length cs ≡ k
    → after t ([], cs ∷ ss) ≡ after (placed t (of_state k)) (cs, ss)
after-state t k cs ss h =
    let s : ℕ = t.counts.states in
    let n : ℕ = t.counts.choices in
    let e1 : n + 0 ≡ n = omega arith in
    let e2 : s + 1 - 1 ≡ s = omega arith in
    let e3 : suc s ≡ s + 1 = omega arith in
    let e4 : s + suc (length (state_rows (n + length cs) ss)) ≡ s + 1 + length (state_rows (n + length cs) ss) = omega arith in
    cc

after_none : (t : Tally) → after t ([], []) ≡ t
after_none t =
    let e1 : t.counts.states + 0 ≡ t.counts.states = omega arith in
    let e2 : t.counts.choices + 0 ≡ t.counts.choices = omega arith in
    let e3 : t.counts.branches + 0 ≡ t.counts.branches = omega arith in
    let with : ℕ → ℕ → ℕ → Tally = λ s c b. tally (counts t.counts.denominator s c b) t.states t.choices t.branches in
    ap (λ (x : ℕ). with x (t.counts.choices + 0) (t.counts.branches + 0)) e1
    ∙ ap (λ (x : ℕ). with t.counts.states x (t.counts.branches + 0)) e2
    ∙ ap (with t.counts.states t.counts.choices) e3

choices_long : (file : List ℕ) (k p : ℕ) (v : List ChoiceFields × ℕ) → choice_run k file p ≡ Ok v → length v.0 ≡ k
choices_long file zero p v h = ap (λ (v : List ChoiceFields × ℕ). length v.0) (sym (ok_same h))
choices_long file (suc k) p v h =
    let t = then_inv (choice file p) _ h in
    let s = then_inv (choice_run k file t.0.1) _ t.2 in
    ap (λ (v : List ChoiceFields × ℕ). length v.0) (sym (ok_same s.2)) ∙ ap suc (choices_long file k t.0.1 s.0 s.1)

module _ (file : List ℕ) where
  -- k choices and then n states
  abbrev pub left_run : ℕ → ℕ → ℕ → Read Left RecordFault
  left_run k n p =
      and_then (choice_run k file p) (λ cs. and_then (state_run n file cs.1) (λ ss. Ok ((cs.0, ss.0), ss.1)))

  -- from there to the end of the file, into the lists
  abbrev pub ended : Tally → Read Left RecordFault → Result Tally FileFault
  ended t r = and_then (and_then (of_file r) (at_end file)) (λ l. Ok (after t l))

  abbrev pub finish : Cursor → Tally → Result Tally FileFault
  finish c t =
      cond c.begun
      (ended t (left_run c.choices c.states c.at))
      (and_then (of_file (header file c.at)) (λ h. ended (placed t (of_header h.0)) (left_run 0 h.0.states h.1)))

  -- what is left after one thing more
  ended_more : (t u : Tally) (f : Left → Left) (r : Read Left RecordFault) → ((l : Left) → after t (f l) ≡ after u l)
      → ended t (and_then r (λ v. Ok (f v.0, v.1))) ≡ ended u r
  ended_more t u f (Err e) h = refl
  ended_more t u f (Ok v) h =
      elim (ltb v.1 (length file)) as
      (λ b. and_then (cond b (Err (Trailing v.1)) (Ok (f v.0))) (λ l. Ok (after t l)) ≡ and_then (cond b (Err (Trailing v.1)) (Ok v.0)) (λ l. Ok (after u l)))
      [ true ↦ refl | false ↦ ap Ok (h v.0) ]

  abbrev with_states : ℕ → List ChoiceFields × ℕ → Read Left RecordFault
  with_states n cs = and_then (state_run n file cs.1) (λ ss. Ok ((cs.0, ss.0), ss.1))

  abbrev one_more : ChoiceFields → List ChoiceFields × ℕ → Read (List ChoiceFields) RecordFault
  one_more c cs = Ok (c ∷ cs.0, cs.1)

  abbrev left_more : ChoiceFields → Left × ℕ → Read Left RecordFault
  left_more c v = Ok ((c ∷ v.0.0, v.0.1), v.1)

  more_states : (c : ChoiceFields) (cs : List ChoiceFields × ℕ) (r : Read (List (List ChoiceFields)) RecordFault)
      → and_then {B = Left × ℕ} r (λ ss. Ok ((c ∷ cs.0, ss.0), ss.1))
      ≡ and_then (and_then {B = Left × ℕ} r (λ ss. Ok ((cs.0, ss.0), ss.1))) (left_more c)
  more_states c cs (Ok ss) = refl
  more_states c cs (Err e) = refl

  more_choices : (c : ChoiceFields) (n : ℕ) (r : Read (List ChoiceFields) RecordFault)
      → and_then (and_then r (one_more c)) (with_states n) ≡ and_then (and_then r (with_states n)) (left_more c)
  more_choices c n (Ok cs) = more_states c cs (state_run n file cs.1)
  more_choices c n (Err e) = refl

  left_choice : (k n p : ℕ) (c : ChoiceFields × ℕ) → choice file p ≡ Ok c → left_run (suc k) n p ≡ and_then (left_run k n c.1) (left_more c.0)
  left_choice k n p c h =
      ap (λ (r : Read (List ChoiceFields) RecordFault). and_then r (with_states n)) (then_ok (λ c. and_then (choice_run k file c.1) (one_more c.0)) h)
      ∙ more_choices c.0 n (choice_run k file c.1)

  abbrev left_state : Left × ℕ → Read Left RecordFault
  left_state v = Ok (([], v.0.0 ∷ v.0.1), v.1)

  abbrev next_states : ℕ → List ChoiceFields × ℕ → Read (List (List ChoiceFields)) RecordFault
  next_states n cs = and_then (state_run n file cs.1) (λ ss. Ok (cs.0 ∷ ss.0, ss.1))

  abbrev no_choices : List (List ChoiceFields) × ℕ → Read Left RecordFault
  no_choices ss = Ok (([], ss.0), ss.1)

  state_states : (cs : List ChoiceFields × ℕ) (r : Read (List (List ChoiceFields)) RecordFault)
      → and_then (and_then {B = List (List ChoiceFields) × ℕ} r (λ ss. Ok (cs.0 ∷ ss.0, ss.1))) no_choices
      ≡ and_then (and_then {B = Left × ℕ} r (λ ss. Ok ((cs.0, ss.0), ss.1))) left_state
  state_states cs (Ok ss) = refl
  state_states cs (Err e) = refl

  state_choices : (n : ℕ) (r : Read (List ChoiceFields) RecordFault)
      → and_then (and_then r (next_states n)) no_choices ≡ and_then (and_then r (with_states n)) left_state
  state_choices n (Ok cs) = state_states cs (state_run n file cs.1)
  state_choices n (Err e) = refl

  left-state : (n p : ℕ) (k : ℕ × ℕ) → state file p ≡ Ok k → left_run 0 (suc n) p ≡ and_then (left_run k.0 n k.1) left_state
  left-state n p k h =
      ap (λ (r : Read (List (List ChoiceFields)) RecordFault). and_then r no_choices) (then_ok (λ k. and_then (choice_run k.0 file k.1) (next_states n)) h)
      ∙ state_choices n (choice_run k.0 file k.1)

  -- the choices that are left are as many as were to come
  left_long : (k n p : ℕ) (v : Left × ℕ) → left_run k n p ≡ Ok v → length v.0.0 ≡ k
  left_long k n p v h =
      let t = then_inv (choice_run k file p) (with_states n) h in
      let s = then_inv (state_run n file t.0.1) _ t.2 in
      ap (λ (v : Left × ℕ). length v.0.0) (sym (ok_same s.2)) ∙ choices_long file k p t.0 t.1

  ended_state : (t : Tally) (k : ℕ) (r : Read Left RecordFault) → ((v : Left × ℕ) → r ≡ Ok v → length v.0.0 ≡ k)
      → ended t (and_then r left_state) ≡ ended (placed t (of_state k)) r
  ended_state t k (Err e) h = refl
  ended_state t k (Ok v) h =
      elim (ltb v.1 (length file)) as
      (λ b. and_then {A = Left} (cond b (Err (Trailing v.1)) (Ok ([], v.0.0 ∷ v.0.1))) (λ l. Ok (after t l))
      ≡ and_then (cond b (Err (Trailing v.1)) (Ok v.0)) (λ l. Ok (after (placed t (of_state k)) l)))
      [ true ↦ refl | false ↦ ap Ok (after-state t k v.0.0 v.0.1 (h v refl)) ]

  pub finish_choice : (t : Tally) (k n p : ℕ) (c : ChoiceFields × ℕ) → choice file p ≡ Ok c
      → ended t (left_run (suc k) n p) ≡ ended (placed t (of_choice c.0)) (left_run k n c.1)
  finish_choice t k n p c h =
      ap (ended t) (left_choice k n p c h)
      ∙ ended_more t (placed t (of_choice c.0)) (λ l. (c.0 ∷ l.0, l.1)) (left_run k n c.1) (λ l. after-choice t c.0 l.0 l.1)

  pub finish_state : (t : Tally) (n p : ℕ) (k : ℕ × ℕ) → state file p ≡ Ok k
      → ended t (left_run 0 (suc n) p) ≡ ended (placed t (of_state k.0)) (left_run k.0 n k.1)
  finish_state t n p k h = ap (ended t) (left-state n p k h) ∙ ended_state t k.0 (left_run k.0 n k.1) (left_long k.0 n k.1)

  abbrev pub Stepped : Type 0
  Stepped = Option Fields × Cursor

  -- the same record and the same place lead on alike
  same_step : (t : Tally) (f g : Fields) (c d : Cursor) → ◌≡◌ {A = Result Stepped FileFault} (Ok (Some g, d)) (Ok (Some f, c))
      → finish d (placed t g) ≡ finish c (placed t f)
  same_step t f g c d h =
      let e : ◌≡◌ {A = Stepped} (Some g, d) (Some f, c) = ok_same h in
      let place : d ≡ c = ap (λ (v : Stepped). v.1) e in
      let some : Some g ≡ Some f = ap (λ (v : Stepped). v.0) e in
      let fields : g ≡ f = cc in
      ap₂ (λ (x : Cursor) (y : Fields). finish x (placed t y)) place fields

  abbrev pub after_header : HeaderFields × ℕ → Result Stepped FileFault
  after_header v = Ok (Some (of_header v.0), standing true v.1 v.0.states 0)

  abbrev pub after_choice : ℕ → ℕ → ChoiceFields × ℕ → Result Stepped FileFault
  after_choice n k v = Ok (Some (of_choice v.0), standing true v.1 n k)

  abbrev pub after_state : ℕ → ℕ × ℕ → Result Stepped FileFault
  after_state n v = Ok (Some (of_state v.0), standing true v.1 n v.0)

  pub step_choice : (p n k : ℕ) → step file (standing true p n (suc k)) ≡ and_then (of_file (choice file p)) (after_choice n k)
  step_choice p n k =
      let some : ltb 0 (suc k) ≡ true = lt-ltb 0 (suc k) (omega arith) in
      let less : suc k - 1 ≡ k = omega arith in
      rw (some, less)

  pub step_state : (p n : ℕ) → step file (standing true p (suc n) 0) ≡ and_then (of_file (state file p)) (after_state n)
  step_state p n =
      let some : ltb 0 (suc n) ≡ true = lt-ltb 0 (suc n) (omega arith) in
      let less : suc n - 1 ≡ n = omega arith in
      rw (some, less)

  header_on : (t : Tally) (r : Read HeaderFields RecordFault) (f : Fields) (d : Cursor) → and_then (of_file r) after_header ≡ Ok (Some f, d)
      → and_then (of_file r) (λ h. ended (placed t (of_header h.0)) (left_run 0 h.0.states h.1)) ≡ finish d (placed t f)
  header_on t (Ok h) f d e = same_step t f (of_header h.0) d (standing true h.1 h.0.states 0) e
  header_on t (Err x) f d e = absurd (err_ok e)

  choice_on : (t : Tally) (p n k : ℕ) (f : Fields) (d : Cursor) (r : Read ChoiceFields RecordFault) → choice file p ≡ r
      → and_then (of_file r) (after_choice n k) ≡ Ok (Some f, d) → ended t (left_run (suc k) n p) ≡ finish d (placed t f)
  choice_on t p n k f d (Ok c) h e = finish_choice t k n p c h ∙ same_step t f (of_choice c.0) d (standing true c.1 n k) e
  choice_on t p n k f d (Err x) h e = absurd (err_ok e)

  state_on : (t : Tally) (p n : ℕ) (f : Fields) (d : Cursor) (r : Read ℕ RecordFault) → state file p ≡ r
      → and_then (of_file r) (after_state n) ≡ Ok (Some f, d) → ended t (left_run 0 (suc n) p) ≡ finish d (placed t f)
  state_on t p n f d (Ok k) h e = finish_state t n p k h ∙ same_step t f (of_state k.0) d (standing true k.1 n k.0) e
  state_on t p n f d (Err x) h e = absurd (err_ok e)

  -- behind the last state no record comes
  pub none_some : (b : Bool) (x : FileFault) (c d : Cursor) (f : Fields) → ◌≡◌ {A = Result Stepped FileFault} (cond b (Err x) (Ok (None, c))) (Ok (Some f, d)) → ⊥
  none_some true x c d f h = err_ok h
  none_some false x c d f h =
      let e : ◌≡◌ {A = Option Fields} None (Some f) = ap (λ (v : Stepped). v.0) (ok_same h) in
      let z : ◌≡◌ {A = ℕ} 0 1 = cc in omega arith

  some_on : (t : Tally) (begun : Bool) (p n k : ℕ) (f : Fields) (d : Cursor) → step file (standing begun p n k) ≡ Ok (Some f, d)
      → finish (standing begun p n k) t ≡ finish d (placed t f)
  some_on t false p n k f d h = header_on t (header file p) f d h
  some_on t true p n (suc k) f d h = choice_on t p n k f d (choice file p) refl (sym (step_choice p n k) ∙ h)
  some_on t true p (suc n) zero f d h = state_on t p n f d (state file p) refl (sym (step_state p n) ∙ h)
  some_on t true p zero zero f d h = absurd (none_some (ltb p (length file)) (Trailing p) (standing true p 0 0) d f h)

  -- a record that is handed out is put into the lists
  pub finish_some : (t : Tally) (c d : Cursor) (f : Fields) → step file c ≡ Ok (Some f, d) → finish c t ≡ finish d (placed t f)
  finish_some t c d f h = some_on t c.begun c.at c.states c.choices f d h

  header_some : (r : Read HeaderFields RecordFault) (d : Cursor) → and_then (of_file r) after_header ≡ Ok (None, d) → ⊥
  header_some (Ok h) d e =
      let q : ◌≡◌ {A = Option Fields} (Some (of_header h.0)) None = ap (λ (v : Stepped). v.0) (ok_same e) in
      let z : ◌≡◌ {A = ℕ} 0 1 = cc in omega arith
  header_some (Err x) d e = err_ok e

  choice_some : (n k : ℕ) (r : Read ChoiceFields RecordFault) (d : Cursor) → and_then (of_file r) (after_choice n k) ≡ Ok (None, d) → ⊥
  choice_some n k (Ok c) d e =
      let q : ◌≡◌ {A = Option Fields} (Some (of_choice c.0)) None = ap (λ (v : Stepped). v.0) (ok_same e) in
      let z : ◌≡◌ {A = ℕ} 0 1 = cc in omega arith
  choice_some n k (Err x) d e = err_ok e

  state_some : (n : ℕ) (r : Read ℕ RecordFault) (d : Cursor) → and_then (of_file r) (after_state n) ≡ Ok (None, d) → ⊥
  state_some n (Ok k) d e =
      let q : ◌≡◌ {A = Option Fields} (Some (of_state k.0)) None = ap (λ (v : Stepped). v.0) (ok_same e) in
      let z : ◌≡◌ {A = ℕ} 0 1 = cc in omega arith
  state_some n (Err x) d e = err_ok e

  end_on : (t : Tally) (b : Bool) (x : FileFault) (c d : Cursor) → ◌≡◌ {A = Result Stepped FileFault} (cond b (Err x) (Ok (None, c))) (Ok (None, d))
      → and_then {A = Left} (cond b (Err x) (Ok ([], []))) (λ l. Ok (after t l)) ≡ Ok t
  end_on t true x c d h = absurd (err_ok h)
  end_on t false x c d h = ap Ok (after_none t)

  none_on : (t : Tally) (begun : Bool) (p n k : ℕ) (d : Cursor) → step file (standing begun p n k) ≡ Ok (None, d) → finish (standing begun p n k) t ≡ Ok t
  none_on t false p n k d h = absurd (header_some (header file p) d h)
  none_on t true p n (suc k) d h = absurd (choice_some n k (choice file p) d (sym (step_choice p n k) ∙ h))
  none_on t true p (suc n) zero d h = absurd (state_some n (state file p) d (sym (step_state p n) ∙ h))
  none_on t true p zero zero d h = end_on t (ltb p (length file)) (Trailing p) (standing true p 0 0) d h

  -- at the end of the file the lists are full
  pub finish_none : (t : Tally) (c d : Cursor) → step file c ≡ Ok (None, d) → finish c t ≡ Ok t
  finish_none t c d h = none_on t c.begun c.at c.states c.choices d h
