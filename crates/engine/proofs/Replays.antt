-- One more call of a list.
use Rattle.std.proofs.Common.{◌≡◌, ℕ, ◌+◌, ◌<◌, ◌≤◌, List, [], ◌∷◌, ◌++◌, map, length, take, drop, set, get_or, Some, Option, sym, refl, ap, ap₂, subst, ◌∙◌, add-zero, arith}
use Rattle.std.proofs.lemmas.List.{take_more, take_more_set, drop-set-lt, get_or-drop, map_push, take_all}
use Rattle.std.proofs.lemmas.Grind.{drop_more_same}
use Rattle.std.specs.Option.{option_map}
use Rattle.table.specs.Table.{Table}
use Rattle.history.specs.Calls.{State, idle, loaded, Call, standing, quote, plan, opened, next, after_idle, after_call, run, Quiet}
use Rattle.history.specs.Answers.{Answer, answer, answers}
use Rattle.history.specs.Histories.{BoundsHold, Onward, HistoryLaw}
use Rattle.engine.specs.Replays.{call_of, list_in, answer_of, call_after, calls_of, answers_in, calls_after, Makes, Replayed}
use Rattle.engine.specs.declared.call.Answer.{Answer as CodeAnswer}
use Rattle.engine.specs.declared.call.Call.{Call as CodeCall}
use Rattle.engine.specs.declared.call.Asked.{Asked}

-- calls that only answer
pub standing_stays : (S : State) → S ≡ next S standing
unfolding next after_idle after_call
standing_stays (idle e) = refl
standing_stays (loaded T B) = refl

pub quote_stays : (S : State) (s width : ℕ) → S ≡ next S (quote s width)
unfolding next after_idle after_call
quote_stays (idle e) s width = refl
quote_stays (loaded T B) s width = refl

pub plan_stays : (S : State) (list : List ℕ) → S ≡ next S (plan list)
unfolding next after_idle after_call
plan_stays (idle e) list = refl
plan_stays (loaded T B) list = refl

-- One more call at the end of a list

run_more : (S : State) (cs : List Call) (c : Call) → run S (cs ++ (c ∷ [])) ≡ next (run S cs) c
unfolding run
run_more S [] c = refl
run_more S (d ∷ ds) c = run_more (next S d) ds c

answers_more : (S : State) (cs : List Call) (c : Call) → answers S (cs ++ (c ∷ [])) ≡ answers S cs ++ (answer (run S cs) c ∷ [])
unfolding answers run
answers_more S [] c = refl
answers_more S (d ∷ ds) c = ap (λ (bs : List Answer). answer S d ∷ bs) (answers_more (next S d) ds c)

calls_after_more : (S : State) (cs : List Call) (c : Call)
    → calls_after (answers S (cs ++ (c ∷ []))) (cs ++ (c ∷ [])) ≡ calls_after (answers S cs) cs ++ (call_after (answer (run S cs) c) c ∷ [])
unfolding answers run
calls_after_more S [] c = refl
calls_after_more S (d ∷ ds) c = ap (λ (bs : List Call). call_after (answer S d) d ∷ bs) (calls_after_more (next S d) ds c)

-- a run in two parts
run_parts : (S : State) (cs ds : List Call) → run S (cs ++ ds) ≡ run (run S cs) ds
unfolding run
run_parts S [] ds = refl
run_parts S (c ∷ cs) ds = run_parts (next S c) cs ds

module _ {A : Type 0} (table : A → Table) (T : Table) where
  -- the first i calls of a list were made, each answer stands in its place, and the calls still to come are as they were
  pub record SoFar (before after : List (Asked A)) (i : ℕ) (S : State) : Type 0 where
    pub holds : S ≡ run (opened T) (calls_of table (take i before))
    pub told : answers_in (take i after) ≡ map (λ (a : Answer). Some a) (answers (opened T) (calls_of table (take i before)))
    pub calls : calls_of table (take i after) ≡ calls_after (answers (opened T) (calls_of table (take i before))) (calls_of table (take i before))
    pub rest : drop i after ≡ drop i before

  pub none_yet : (asked : List (Asked A)) (S : State) → S ≡ opened T → SoFar asked asked 0 S
  unfolding run answers
  none_yet asked S o = record { holds = o; told = refl; calls = refl; rest = refl }

  -- the next call is made
  pub one_more : (before after : List (Asked A)) (i : ℕ) (S S' : State) (one : Asked A) (call : CodeCall A) (a : CodeAnswer)
      → length after ≡ length before → i < length before → one ≡ get_or after i one → SoFar before after i S → Makes table S S' one.call call a
      → SoFar before (set after i (record { call = call; answer = Some a })) (i + 1) S'
  one_more before after i S S' one call a n h is r m =
      let now : Asked A = record { call = call; answer = Some a } in
      let c : Call = call_of table one.call in
      let cs : List Call = calls_of table (take i before) in
      let k : i < length after = omega (arith, n, h) in
      let at_front : (l : List (Asked A)) → get_or (drop i l) 0 one ≡ get_or l i one =
      λ l. get_or-drop i l 0 one ∙ ap (λ (j : ℕ). get_or l j one) (add-zero i) in
      let at : one ≡ get_or before i one =
      is ∙ sym (at_front after) ∙ ap (λ (l : List (Asked A)). get_or l 0 one) r.rest ∙ at_front before in
      let more : calls_of table (take (i + 1) before) ≡ cs ++ (c ∷ []) =
      ap (calls_of table) (take_more before i one h ∙ ap (λ (x : Asked A). take i before ++ (x ∷ [])) (sym at))
      ∙ map_push (λ (x : Asked A). call_of table x.call) (take i before) one in
      let front : take (i + 1) (set after i now) ≡ take i after ++ (now ∷ []) = take_more_set after i now k in
      let place : Asked A → Option Answer = λ x. option_map (answer_of (list_in x.call)) x.answer in
      let told : Answer = answer (run (opened T) cs) c in
      let is_told : answer S c ≡ told = ap (λ (R : State). answer R c) r.holds in
      record {
        holds = m.holds ∙ ap (λ (R : State). next R c) r.holds ∙ sym (run_more (opened T) cs c) ∙ ap (run (opened T)) (sym more);
        told =
            ap answers_in front ∙ map_push place (take i after) now
            ∙ ap₂ (λ (l : List (Option Answer)) (x : Answer). l ++ (Some x ∷ [])) r.told (m.answers ∙ is_told)
            ∙ sym (map_push (λ (x : Answer). Some x) (answers (opened T) cs) told)
            ∙ ap (map (λ (x : Answer). Some x)) (sym (answers_more (opened T) cs c))
            ∙ ap (λ (ds : List Call). map (λ (x : Answer). Some x) (answers (opened T) ds)) (sym more);
        calls =
            ap (calls_of table) front ∙ map_push (λ (x : Asked A). call_of table x.call) (take i after) now
            ∙ ap₂ (λ (l : List Call) (x : Call). l ++ (x ∷ [])) r.calls (m.call ∙ ap (λ (x : Answer). call_after x c) is_told)
            ∙ sym (calls_after_more (opened T) cs c)
            ∙ ap (λ (ds : List Call). calls_after (answers (opened T) ds) ds) (sym more);
        rest = drop-set-lt (i + 1) after i now (omega arith) ∙ drop_more_same after before i r.rest;
      }

  -- all calls are made
  pub all_made : (before after : List (Asked A)) (i : ℕ) (S : State) → length after ≡ length before → length before ≤ i → HistoryLaw T → SoFar before after i S
      → Replayed table T before after S
  all_made before after i S n h law r =
      let was : take i before ≡ before = take_all i before h in
      let is : take i after ≡ after = take_all i after (omega (arith, n, h)) in
      let calls : List Call = calls_of table before in
      let same : calls_of table (take i before) ≡ calls = ap (calls_of table) was in
      let holds : S ≡ run (opened T) calls = r.holds ∙ ap (run (opened T)) same in
      record {
        holds = holds;
        answers =
            ap answers_in (sym is) ∙ r.told ∙ ap (λ (cs : List Call). map (λ (a : Answer). Some a) (answers (opened T) cs)) same;
        calls = ap (calls_of table) (sym is) ∙ r.calls ∙ ap (λ (cs : List Call). calls_after (answers (opened T) cs) cs) same;
        now = subst BoundsHold (sym holds) (law.holds calls);
        along = λ earlier later e. law.holds earlier;
        tightened = λ earlier later e q.
            let parts : S ≡ run (run (opened T) earlier) later = holds ∙ ap (run (opened T)) e ∙ run_parts (opened T) earlier later in
            subst (Onward (run (opened T) earlier)) (sym parts) (law.tightens earlier later q);
        between = λ earlier middle later e q.
            subst (Onward (run (opened T) earlier)) (sym (run_parts (opened T) earlier middle)) (law.tightens earlier middle q);
        law = law;
      }
