-- The steps of a copy, and that the copied rows stand for the table.
use Rattle.std.proofs.Common.{◌≡◌, ℕ, ◌+◌, ◌-◌, ◌<◌, ◌≤◌, ltb, leb, List, [], ◌∷◌, ◌++◌, map, length, get_or, sym, ap, ◌∙◌, subst, ap₂, ⊎_elim, arith}
use Rattle.std.specs.List.{range_with_len}
use Rattle.std.proofs.lemmas.List.{get_or_default, get_or_append_left, get_or-append-add, length-append, append_assoc}
use Rattle.std.proofs.lemmas.List.FromFn.{get_or-map-range_with_len, length-map-range_with_len}
use Rattle.std.proofs.lemmas.Bool.{cases_eq, cases_lt, cond-true, cond-false, lt-ltb, le-ltb, le-leb}
use Rattle.table.specs.Table.{Table, ZeroOutside}
use Rattle.table.specs.Limits.{Lawful}
use Rattle.sources.specs.Rows.{run, no_state, no_choice, state_count, state_at, choice_count, choice_at, branch_count, branch_at, list_table}
use Rattle.sources.specs.declared.list.StateRow.{StateRow}
use Rattle.sources.specs.declared.list.ChoiceRow.{ChoiceRow}
use Rattle.model.specs.Copy.{Extends, HoldsChoice, HoldsChoices, ChoicesCopied, HoldsState, Earned, StatesCopied}

extends_at : {X : Type 0} {old new : List X} (d : X) (i : ℕ) → Extends old new → i < length old → get_or new i d ≡ get_or old i d
extends_at {old = old} d i e h = ap (λ xs. get_or xs i d) e.is ∙ get_or_append_left old e.more d i h

extends_long : {X : Type 0} {old new : List X} → Extends old new → length old ≤ length new
extends_long {old = old} e = let l = ap length e.is in let m = length-append old e.more in omega arith

extends_more : {X : Type 0} {xs ys zs : List X} → Extends xs ys → Extends ys zs → Extends xs zs
extends_more {xs = xs} e f = record {
  more = e.more ++ f.more;
  is = f.is ∙ ap (λ ws. ws ++ f.more) e.is ∙ append_assoc xs e.more f.more;
}

-- the row of a choice holds also where there are more branches
choice_extends : {T : Table} {s c : ℕ} {row : ChoiceRow} {old new : List (ℕ × ℕ)}
    → Extends old new → HoldsChoice T s c row old → HoldsChoice T s c row new
choice_extends {row = row} e h = record {
  reward = h.reward;
  count = h.count;
  within = let l = extends_long e in let m = h.within in omega arith;
  at = λ b l. let m = h.within in extends_at (0, 0) (row.first + b) e (omega arith) ∙ h.at b l;
}

choices_extend : {T : Table} {s k first : ℕ} {old_c new_c : List ChoiceRow} {old_b new_b : List (ℕ × ℕ)}
    → Extends old_c new_c → Extends old_b new_b → HoldsChoices T s k first old_c old_b → HoldsChoices T s k first new_c new_b
choices_extend {T} {s} {k} {first} {new_b = new_b} e f h = record {
  within = let l = extends_long e in let m = h.within in omega arith;
  at = λ c l.
      let m = h.within in
      subst (λ (row : ChoiceRow). HoldsChoice T s c row new_b) (sym (extends_at no_choice (first + c) e (omega arith))) (choice_extends f (h.at c l));
}

module _ (T : Table) (s k : ℕ) (row : ChoiceRow) (old_c new_c nextC : List ChoiceRow) (old_b new_b nextB : List (ℕ × ℕ)) where
  pub choices_more : ChoicesCopied T s k old_c new_c old_b new_b → T.branches s k ≤ 8
      → nextB ≡ new_b ++ map (T.branch s k) (range_with_len 0 (T.branches s k)) → nextC ≡ new_c ++ (row ∷ [])
      → row.reward ≡ T.reward s k → row.first ≡ length new_b → row.count ≡ T.branches s k
      → ChoicesCopied T s (k + 1) old_c nextC old_b nextB
  choices_more p few eB eC er ef ec = record {
    choices = extends_more p.choices grow_c;
    branches = extends_more p.branches grow_b;
    size = let l = long_c in let m = p.size in omega arith;
    room = let l = long_b in let m = p.room in omega arith;
    held = record {
      within = let l = long_c in let m = p.size in omega arith;
      at = λ c h. ⊎_elim
          (λ (q : c ≡ k). subst (λ x. HoldsChoice T s x (get_or nextC (length old_c + x) no_choice) nextB) (sym q) new_row)
          (λ (q : c ≡ k → ⊥). (choices_extend grow_c grow_b p.held).at c (omega arith))
          (cases_eq c k);
    };
  }
    where
      grow_c : Extends new_c nextC
      grow_c = record { more = row ∷ []; is = eC }

      grow_b : Extends new_b nextB
      grow_b = record { more = map (T.branch s k) (range_with_len 0 (T.branches s k)); is = eB }

      long_c : length nextC ≡ length new_c + 1
      long_c = ap length eC ∙ length-append new_c (row ∷ [])

      long_b : length nextB ≡ length new_b + T.branches s k
      long_b =
          ap length eB ∙ length-append new_b (map (T.branch s k) (range_with_len 0 (T.branches s k)))
          ∙ ap (λ (n : ℕ). length new_b + n) (length-map-range_with_len (T.branch s k) 0 (T.branches s k))

      here : get_or nextC (length old_c + k) no_choice ≡ row
      here =
          let q : length old_c + k ≡ length new_c + 0 = let m = p.size in omega arith in
          ap₂ (λ (xs : List ChoiceRow) (i : ℕ). get_or xs i no_choice) eC q ∙ get_or-append-add new_c (row ∷ []) 0 no_choice

      new_row : HoldsChoice T s k (get_or nextC (length old_c + k) no_choice) nextB
      new_row = subst (λ (r : ChoiceRow). HoldsChoice T s k r nextB) (sym here) (record {
        reward = er;
        count = ec;
        within = let l = long_b in omega arith;
        at = λ b h.
            ap₂ (λ (xs : List (ℕ × ℕ)) (i : ℕ). get_or xs (i + b) (0, 0)) eB ef
            ∙ get_or-append-add new_b (map (T.branch s k) (range_with_len 0 (T.branches s k))) b (0, 0)
            ∙ get_or-map-range_with_len (T.branch s k) 0 (T.branches s k) b b (0, 0) h (omega arith);
      })

module _ (T : Table) (k : ℕ) (row : StateRow) (states next : List StateRow) (old_c new_c : List ChoiceRow) (old_b new_b : List (ℕ × ℕ)) where
  pub states_more : StatesCopied T k states old_c old_b → ChoicesCopied T k (T.choices k) old_c new_c old_b new_b → T.choices k ≤ 16
      → next ≡ states ++ (row ∷ []) → row.first ≡ length old_c → row.count ≡ T.choices k
      → StatesCopied T (k + 1) next new_c new_b
  states_more p q few e ef ec = record {
    size = let l = long in let m = p.size in omega arith;
    few_choices = let a = p.few_choices in let b = q.size in omega arith;
    few_branches = let a = p.few_branches in let b = q.room in omega arith;
    at = λ s h. ⊎_elim
        (λ (w : s ≡ k). subst (λ x. HoldsState T x (get_or next x no_state) new_c new_b) (sym w) new_row)
        (λ (w : s ≡ k → ⊥). old_row s (omega arith))
        (cases_eq s k);
    earned = λ i d h. ⊎_elim (λ (l : i < length old_c). old_earned i d l) (λ (l : length old_c ≤ i). new_earned i d h l) (cases_lt i (length old_c));
  }
    where
      old_earned : (i : ℕ) (d : ChoiceRow) → i < length old_c → Earned T (k + 1) (get_or new_c i d).reward
      old_earned i d l =
          let w = p.earned i d l in
          (w.0, w.1, omega arith, w.3, w.4 ∙ ap (λ (r : ChoiceRow). r.reward) (sym (extends_at d i q.choices l)))

      new_earned : (i : ℕ) (d : ChoiceRow) → i < length new_c → length old_c ≤ i → Earned T (k + 1) (get_or new_c i d).reward
      new_earned i d h l =
          let c : ℕ = i - length old_c in
          let at : length old_c + c ≡ i = omega arith in
          let m = q.size in
          let few_c : c < T.choices k = omega arith in (
            k,
            c,
            omega arith,
            few_c,
            sym (q.held.at c few_c).reward ∙ ap (λ (j : ℕ). (get_or new_c j no_choice).reward) at
                ∙ ap (λ (r : ChoiceRow). r.reward) (get_or_default new_c i no_choice d h),
          )

      long : length next ≡ length states + 1
      long = ap length e ∙ length-append states (row ∷ [])

      here : get_or next k no_state ≡ row
      here =
          let w : k ≡ length states + 0 = let m = p.size in omega arith in
          ap₂ (λ (xs : List StateRow) (i : ℕ). get_or xs i no_state) e w ∙ get_or-append-add states (row ∷ []) 0 no_state

      new_row : HoldsState T k (get_or next k no_state) new_c new_b
      new_row = subst (λ (r : StateRow). HoldsState T k r new_c new_b) (sym here) (record {
        count = ec;
        held = subst (λ i. HoldsChoices T k (T.choices k) i new_c new_b) (sym ef) q.held;
      })

      old_row : (s : ℕ) → s < k → HoldsState T s (get_or next s no_state) new_c new_b
      old_row s h =
          let m = p.size in
          let w = p.at s h in
          subst (λ (r : StateRow). HoldsState T s r new_c new_b)
          (sym (extends_at no_state s (record { more = row ∷ []; is = e }) (omega arith)))
          (record { count = w.count; held = choices_extend q.choices q.branches w.held })

-- The copied rows stand for the table

-- a run within its list has all its places
run_in : (first count size : ℕ) → first + count ≤ size → run first count size ≡ count
run_in first count size h = cond-true (leb (first + count) size) count 0 (le-leb (first + count) size h)

module _ (T : Table) (law : Lawful T) (out : ZeroOutside T) (states : List StateRow) (choices : List ChoiceRow)
    (branches : List (ℕ × ℕ)) (p : StatesCopied T T.states states choices branches) where
  pub states_same : state_count states choices branches ≡ T.states
  states_same = let l = law.states.1 in let m = p.size in omega arith

  pub row_is : (s : ℕ) → s < T.states → state_at states choices branches s ≡ get_or states s no_state
  row_is s h =
      let n = state_count states choices branches in
      let l : s < n = subst (λ (x : ℕ). s < x) (sym states_same) h in
      cond-true (ltb s n) (get_or states s no_state) no_state (lt-ltb s n l)

  row_out : (s : ℕ) → T.states ≤ s → state_at states choices branches s ≡ no_state
  row_out s h =
      let n = state_count states choices branches in
      let l : n ≤ s = subst (λ (x : ℕ). x ≤ s) (sym states_same) h in
      cond-false (ltb s n) (get_or states s no_state) no_state (le-ltb s n l)

  choices_same : (s : ℕ) → choice_count states choices branches s ≡ T.choices s
  choices_same s =
      ⊎_elim
      (λ (h : s < T.states).
      let w = p.at s h in
      let l = w.held.within in
      let q = w.count in
      let r = get_or states s no_state in
      ap (λ (x : StateRow). run x.first x.count (length choices)) (row_is s h)
      ∙ run_in r.first r.count (length choices) (omega arith) ∙ q)
      (λ (h : T.states ≤ s).
      ap (λ (x : StateRow). run x.first x.count (length choices)) (row_out s h)
      ∙ run_in 0 0 (length choices) (omega arith) ∙ sym (out.choices s h))
      (cases_lt s T.states)

  -- a state with a choice is a state of the table
  state_of : (s c : ℕ) → c < T.choices s → s < T.states
  state_of s c h =
      ⊎_elim (λ (l : s < T.states). l) (λ (l : T.states ≤ s). let e = out.choices s l in absurd (omega arith)) (cases_lt s T.states)

  -- the row of a choice
  abbrev pub row_at : ℕ → ℕ → ChoiceRow
  row_at s c = get_or choices ((get_or states s no_state).first + c) no_choice

  pub choice_is : (s c : ℕ) → c < T.choices s → choice_at states choices branches s c ≡ row_at s c
  choice_is s c h =
      let n = choice_count states choices branches s in
      let l : c < n = subst (λ (x : ℕ). c < x) (sym (choices_same s)) h in
      cond-true (ltb c n) (get_or choices ((state_at states choices branches s).first + c) no_choice) no_choice (lt-ltb c n l)
      ∙ ap (λ (x : StateRow). get_or choices (x.first + c) no_choice) (row_is s (state_of s c h))

  choice_out : (s c : ℕ) → T.choices s ≤ c → choice_at states choices branches s c ≡ no_choice
  choice_out s c h =
      let n = choice_count states choices branches s in
      let l : n ≤ c = subst (λ (x : ℕ). x ≤ c) (sym (choices_same s)) h in
      cond-false (ltb c n) (get_or choices ((state_at states choices branches s).first + c) no_choice) no_choice (le-ltb c n l)

  pub choice_held : (s c : ℕ) → c < T.choices s → HoldsChoice T s c (row_at s c) branches
  choice_held s c h = (p.at s (state_of s c h)).held.at c h

  reward_same : (s c : ℕ) → (choice_at states choices branches s c).reward ≡ T.reward s c
  reward_same s c =
      ⊎_elim
      (λ (h : c < T.choices s). ap (λ (r : ChoiceRow). r.reward) (choice_is s c h) ∙ (choice_held s c h).reward)
      (λ (h : T.choices s ≤ c). ap (λ (r : ChoiceRow). r.reward) (choice_out s c h) ∙ sym (out.reward s c h))
      (cases_lt c (T.choices s))

  branches_same : (s c : ℕ) → branch_count states choices branches s c ≡ T.branches s c
  branches_same s c =
      ⊎_elim
      (λ (h : c < T.choices s).
      let w = choice_held s c h in
      let l = w.within in
      let q = w.count in
      ap (λ (x : ChoiceRow). run x.first x.count (length branches)) (choice_is s c h)
      ∙ run_in (row_at s c).first (row_at s c).count (length branches) (omega arith) ∙ q)
      (λ (h : T.choices s ≤ c).
      ap (λ (x : ChoiceRow). run x.first x.count (length branches)) (choice_out s c h)
      ∙ run_in 0 0 (length branches) (omega arith) ∙ sym (out.branches s c h))
      (cases_lt c (T.choices s))

  -- a choice with a branch is a choice of the table
  choice_of : (s c b : ℕ) → b < T.branches s c → c < T.choices s
  choice_of s c b h =
      ⊎_elim (λ (l : c < T.choices s). l) (λ (l : T.choices s ≤ c). let e = out.branches s c l in absurd (omega arith)) (cases_lt c (T.choices s))

  branch_same : (s c b : ℕ) → branch_at states choices branches s c b ≡ T.branch s c b
  branch_same s c b =
      let n = branch_count states choices branches s c in
      let x = get_or branches ((choice_at states choices branches s c).first + b) (0, 0) in
      ⊎_elim
      (λ (h : b < T.branches s c).
      let l : b < n = subst (λ (m : ℕ). b < m) (sym (branches_same s c)) h in
      cond-true (ltb b n) x (0, 0) (lt-ltb b n l)
      ∙ ap (λ (r : ChoiceRow). get_or branches (r.first + b) (0, 0)) (choice_is s c (choice_of s c b h))
      ∙ (choice_held s c (choice_of s c b h)).at b h)
      (λ (h : T.branches s c ≤ b).
      let l : n ≤ b = subst (λ (m : ℕ). m ≤ b) (sym (branches_same s c)) h in
      cond-false (ltb b n) x (0, 0) (le-ltb b n l) ∙ sym (out.branch s c b h))
      (cases_lt b (T.branches s c))

  copied_table : list_table T.denominator states choices branches ≡ T
  copied_table = λ i. record {
    states = states_same i;
    denominator = T.denominator;
    choices = λ s. choices_same s i;
    reward = λ s c. reward_same s c i;
    branches = λ s c. branches_same s c i;
    branch = λ s c b. branch_same s c b i;
  }

  pub copied_rows : (W : ℕ) → W ≡ T.denominator → list_table W states choices branches ≡ T
  copied_rows W e = ap (λ (w : ℕ). list_table w states choices branches) e ∙ copied_table
