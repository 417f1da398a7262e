-- The lists of a model give the table that the model describes.
use Rattle.std.proofs.Common.{◌≡◌, ℕ, zero, suc, ◌+◌, ◌<◌, ◌≤◌, min, Bool, true, false, cond, ltb, leb, List, [], ◌∷◌, ◌++◌, map, length, get_or, take, pos, None, sym, refl, ap, ◌∙◌, ap₂, inl, inr, arith}
use Rattle.std.proofs.lemmas.List.{length-append, length-map, length-take, get_or-map, get_or-take, get_or_past, get_or_append_left, get_or-append-add}
use Rattle.std.proofs.lemmas.Bool.{cases_lt, cond-true, cond-false, le-leb, lt-ltb, le-ltb}
use Rattle.sources.specs.Rows.{run, no_state, no_choice, state_at, choice_count, choice_at, branch_count, branch_at, list_table}
use Rattle.sources.specs.declared.list.StateRow.{StateRow}
use Rattle.sources.specs.declared.list.ChoiceRow.{ChoiceRow}
use Rattle.modelfile.specs.Records.{ChoiceFields}
use Rattle.modelfile.specs.File.{Model}
use Rattle.modelfile.specs.Described.{state_of, branches_at, model_table, SameTable}
use Rattle.modelfile.specs.Lists.{model_states, model_choices, model_branches, denominator_of, reward_of, branches_of, choices_of, all_choices, state_row, choice_row, state_rows, choice_rows, branch_rows}

-- how many choices the states before state s have
abbrev pub before : List (List ChoiceFields) → ℕ → ℕ
before [] s = 0
before (cs ∷ ss) zero = 0
before (cs ∷ ss) (suc s) = length cs + before ss s

pub states_long : (first : ℕ) (ss : List (List ChoiceFields)) → length (state_rows first ss) ≡ length ss
states_long first [] = refl
states_long first (cs ∷ ss) = ap suc (states_long (first + length cs) ss)

pub state-at : (first : ℕ) (ss : List (List ChoiceFields)) (s : ℕ) → s < length ss
    → get_or (state_rows first ss) s no_state ≡ state_row (first + before ss s) (length (get_or ss s []))
state-at first [] s h = absurd (omega arith)
state-at first (cs ∷ ss) zero h = let e : first ≡ first + 0 = omega arith in ap (λ (n : ℕ). state_row n (length cs)) e
state-at first (cs ∷ ss) (suc s) h =
    let e : first + length cs + before ss s ≡ first + (length cs + before ss s) = omega arith in
    state-at (first + length cs) ss s (omega arith) ∙ ap (λ (n : ℕ). state_row n (length (get_or ss s []))) e

choices_of_long : (i : ℕ) (cs : List ChoiceFields) → length (choices_of i cs) ≡ length cs
choices_of_long i [] = refl
choices_of_long i (c ∷ cs) = ap suc (choices_of_long i cs)

-- the choices of state s stand from there on
pub choices_room : (i : ℕ) (ss : List (List ChoiceFields)) (s : ℕ) → s < length ss → before ss s + length (get_or ss s []) ≤ length (all_choices i ss)
choices_room i [] s h = absurd (omega arith)
choices_room i (cs ∷ ss) zero h =
    let a = length-append (choices_of i cs) (all_choices (suc i) ss) in
    let b = choices_of_long i cs in
    omega arith
choices_room i (cs ∷ ss) (suc s) h =
    let a = length-append (choices_of i cs) (all_choices (suc i) ss) in
    let b = choices_of_long i cs in
    let r = choices_room (suc i) ss s (omega arith) in
    omega arith

pub choice-at : (i : ℕ) (ss : List (List ChoiceFields)) (s c : ℕ) (d : ℕ × ChoiceFields) (e : ChoiceFields) → s < length ss → c < length (get_or ss s [])
    → get_or (all_choices i ss) (before ss s + c) d ≡ (i + s, get_or (get_or ss s []) c e)
choice-at i [] s c d e h l = absurd (omega arith)
choice-at i (cs ∷ ss) zero c d e h l =
    let b = choices_of_long i cs in
    let n : 0 + c ≡ c = omega arith in
    let m : i ≡ i + 0 = omega arith in
    ap (λ (x : ℕ). get_or (choices_of i cs ++ all_choices (suc i) ss) x d) n
    ∙ get_or_append_left (choices_of i cs) (all_choices (suc i) ss) d c (omega arith)
    ∙ get_or-map (λ (c : ChoiceFields). (i, c)) cs c e d l
    ∙ ap (λ (x : ℕ). (x, get_or cs c e)) m
choice-at i (cs ∷ ss) (suc s) c d e h l =
    let b = choices_of_long i cs in
    let n : length cs + before ss s + c ≡ length (choices_of i cs) + (before ss s + c) = omega arith in
    let m : suc i + s ≡ i + suc s = omega arith in
    ap (λ (x : ℕ). get_or (choices_of i cs ++ all_choices (suc i) ss) x d) n
    ∙ get_or-append-add (choices_of i cs) (all_choices (suc i) ss) (before ss s + c) d
    ∙ choice-at (suc i) ss s c d e (omega arith) l
    ∙ ap (λ (x : ℕ). (x, get_or (get_or ss s []) c e)) m

module _ (W : ℕ) where
  -- how many branches the choices before choice i have
  abbrev pub ahead : List (ℕ × ChoiceFields) → ℕ → ℕ
  ahead [] i = 0
  ahead (c ∷ cs) zero = 0
  ahead (c ∷ cs) (suc i) = length (branches_of W c.0 c.1) + ahead cs i

  pub choices_long : (first : ℕ) (cs : List (ℕ × ChoiceFields)) → length (choice_rows W first cs) ≡ length cs
  choices_long first [] = refl
  choices_long first (c ∷ cs) = ap suc (choices_long (first + length (branches_of W c.0 c.1)) cs)

  -- the row, the branches and their room, of the choice v that stands at i
  pub row_at : (first : ℕ) (cs : List (ℕ × ChoiceFields)) (i : ℕ) (d v : ℕ × ChoiceFields) → i < length cs → get_or cs i d ≡ v
      → get_or (choice_rows W first cs) i no_choice ≡ choice_row (reward_of v.1) (first + ahead cs i) (length (branches_of W v.0 v.1))
  row_at first [] i d v h q = absurd (omega arith)
  row_at first (c ∷ cs) zero d v h q =
      let e : first ≡ first + 0 = omega arith in
      ap₂ (λ (x : ℕ × ChoiceFields) (n : ℕ). choice_row (reward_of x.1) n (length (branches_of W x.0 x.1))) q e
  row_at first (c ∷ cs) (suc i) d v h q =
      let k : ℕ = length (branches_of W c.0 c.1) in
      let e : first + k + ahead cs i ≡ first + (k + ahead cs i) = omega arith in
      row_at (first + k) cs i d v (omega arith) q
      ∙ ap (λ (n : ℕ). choice_row (reward_of v.1) n (length (branches_of W v.0 v.1))) e

  pub branches_room : (cs : List (ℕ × ChoiceFields)) (i : ℕ) (d v : ℕ × ChoiceFields) → i < length cs → get_or cs i d ≡ v
      → ahead cs i + length (branches_of W v.0 v.1) ≤ length (branch_rows W cs)
  branches_room [] i d v h q = absurd (omega arith)
  branches_room (c ∷ cs) zero d v h q =
      let a = length-append (branches_of W c.0 c.1) (branch_rows W cs) in
      let b : length (branches_of W c.0 c.1) ≡ length (branches_of W v.0 v.1) = ap (λ (x : ℕ × ChoiceFields). length (branches_of W x.0 x.1)) q in
      omega arith
  branches_room (c ∷ cs) (suc i) d v h q =
      let a = length-append (branches_of W c.0 c.1) (branch_rows W cs) in
      let r = branches_room cs i d v (omega arith) q in
      omega arith

  pub branch-at : (cs : List (ℕ × ChoiceFields)) (i b : ℕ) (d v : ℕ × ChoiceFields) → i < length cs → get_or cs i d ≡ v → b < length (branches_of W v.0 v.1)
      → get_or (branch_rows W cs) (ahead cs i + b) (0, 0) ≡ get_or (branches_of W v.0 v.1) b (0, 0)
  branch-at [] i b d v h q l = absurd (omega arith)
  branch-at (c ∷ cs) zero b d v h q l =
      let n : 0 + b ≡ b = omega arith in
      let k : length (branches_of W c.0 c.1) ≡ length (branches_of W v.0 v.1) = ap (λ (x : ℕ × ChoiceFields). length (branches_of W x.0 x.1)) q in
      ap (λ (x : ℕ). get_or (branches_of W c.0 c.1 ++ branch_rows W cs) x (0, 0)) n
      ∙ get_or_append_left (branches_of W c.0 c.1) (branch_rows W cs) (0, 0) b (omega arith)
      ∙ ap (λ (x : ℕ × ChoiceFields). get_or (branches_of W x.0 x.1) b (0, 0)) q
  branch-at (c ∷ cs) (suc i) b d v h q l =
      let n : length (branches_of W c.0 c.1) + ahead cs i + b ≡ length (branches_of W c.0 c.1) + (ahead cs i + b) = omega arith in
      ap (λ (x : ℕ). get_or (branches_of W c.0 c.1 ++ branch_rows W cs) x (0, 0)) n
      ∙ get_or-append-add (branches_of W c.0 c.1) (branch_rows W cs) (ahead cs i + b) (0, 0)
      ∙ branch-at cs i b d v (omega arith) q l

same_both : (b : Bool) (n : ℕ) → cond b n n ≡ n
same_both true n = refl
same_both false n = refl

abbrev no_fields : ChoiceFields
no_fields = record { reward = None; branches = None; label = None }

module _ (m : Model) where
  abbrev S : List StateRow
  S = model_states m

  abbrev C : List ChoiceRow
  C = model_choices m

  abbrev B : List (ℕ × ℕ)
  B = model_branches m

  abbrev all : List (ℕ × ChoiceFields)
  all = all_choices 0 m.states

  state_inside : (s : ℕ) → s < length (take 257 m.states)
      → (state_at S C B s ≡ state_row (before m.states s) (length (get_or m.states s []))) × (state_of m s ≡ get_or m.states s []) × (s < length m.states)
  state_inside s h =
      let a = length-take 257 m.states in
      let l = states_long 0 m.states in
      let e : 0 + before m.states s ≡ before m.states s = omega arith in
      let b : s < length m.states = omega arith in
      let d : s < min (length S) 257 = omega arith in (
        cond-true (ltb s (min (length S) 257)) (get_or S s no_state) no_state (lt-ltb s (min (length S) 257) d)
            ∙ state-at 0 m.states s b
            ∙ ap (λ (n : ℕ). state_row n (length (get_or m.states s []))) e,
        get_or-take 257 m.states s [] (omega arith),
        b,
      )

  state_outside : (s : ℕ) → length (take 257 m.states) ≤ s → (state_at S C B s ≡ no_state) × (state_of m s ≡ [])
  state_outside s h =
      let a = length-take 257 m.states in
      let l = states_long 0 m.states in
      let d : min (length S) 257 ≤ s = omega arith in
      (cond-false (ltb s (min (length S) 257)) (get_or S s no_state) no_state (le-ltb s (min (length S) 257) d), get_or_past (take 257 m.states) s [] h)

  choices_same : (s : ℕ) → choice_count S C B s ≡ length (state_of m s)
  choices_same s =
      elim (cases_lt s (length (take 257 m.states))) [
        | inl h ↦ (
            let r = state_inside s h in
            let k : ℕ = length (get_or m.states s []) in
            let room = choices_room 0 m.states s r.2 in
            let long = choices_long (denominator_of m) 0 all in
            ap (λ (x : StateRow). run x.first x.count (length C)) r.0
            ∙ cond-true (leb (before m.states s + k) (length C)) k 0 (le-leb (before m.states s + k) (length C) (omega arith))
            ∙ ap length (sym r.1))
        | inr h ↦ (
            let r = state_outside s h in
            ap (λ (x : StateRow). run x.first x.count (length C)) r.0
            ∙ same_both (leb 0 (length C)) 0
            ∙ ap length (sym r.1))
      ]

  abbrev fields_at : ℕ → ℕ → ChoiceFields
  fields_at s c = get_or (state_of m s) c no_fields

  abbrev own_branches : ℕ → ℕ → List (ℕ × ℕ)
  own_branches s c = branches_of (denominator_of m) s (fields_at s c)

  abbrev index : ℕ → ℕ → ℕ
  index s c = before m.states s + c

  choice_inside : (s c : ℕ) → c < length (state_of m s)
      → (choice_at S C B s c ≡ choice_row (reward_of (fields_at s c)) (ahead (denominator_of m) all (index s c)) (length (own_branches s c)))
      × (get_or all (index s c) (0, no_fields) ≡ (s, fields_at s c)) × (index s c < length all)
  choice_inside s c l =
      elim (cases_lt s (length (take 257 m.states))) [
        | inl h ↦ (
            let r = state_inside s h in
            let n : length (state_of m s) ≡ length (get_or m.states s []) = ap length r.1 in
            let room = choices_room 0 m.states s r.2 in
            let count = choices_same s in
            let zero-s : 0 + s ≡ s = omega arith in
            let at : get_or all (index s c) (0, no_fields) ≡ (s, fields_at s c) =
            choice-at 0 m.states s c (0, no_fields) no_fields r.2 (omega arith)
            ∙ ap₂ (λ (x : ℕ) (y : ChoiceFields). (x, y)) zero-s (ap (λ (cs : List ChoiceFields). get_or cs c no_fields) (sym r.1)) in
            let inside : index s c < length all = omega arith in
            let e : 0 + ahead (denominator_of m) all (index s c) ≡ ahead (denominator_of m) all (index s c) = omega arith in (
              cond-true (ltb c (choice_count S C B s)) (get_or C ((state_at S C B s).first + c) no_choice) no_choice (lt-ltb c (choice_count S C B s) (omega arith))
                  ∙ ap (λ (x : StateRow). get_or C (x.first + c) no_choice) r.0
                  ∙ row_at (denominator_of m) 0 all (index s c) (0, no_fields) (s, fields_at s c) inside at
                  ∙ ap (λ (x : ℕ). choice_row (reward_of (fields_at s c)) x (length (own_branches s c))) e,
              at,
              inside,
            ))
        | inr h ↦ (let z : length (state_of m s) ≡ 0 = ap length (state_outside s h).1 in absurd (omega arith))
      ]

  choice_outside : (s c : ℕ) → length (state_of m s) ≤ c → choice_at S C B s c ≡ no_choice
  choice_outside s c l =
      let count = choices_same s in
      cond-false (ltb c (choice_count S C B s)) (get_or C ((state_at S C B s).first + c) no_choice) no_choice (le-ltb c (choice_count S C B s) (omega arith))

  at_inside : (s c : ℕ) → c < length (state_of m s) → branches_at m s c ≡ own_branches s c
  at_inside s c l = get_or-map (branches_of (denominator_of m) s) (state_of m s) c no_fields [] l

  at_outside : (s c : ℕ) → length (state_of m s) ≤ c → branches_at m s c ≡ []
  at_outside s c l =
      let e = length-map (state_of m s) (branches_of (denominator_of m) s) in
      get_or_past (map (branches_of (denominator_of m) s) (state_of m s)) c [] (omega arith)

  reward_same : (s c : ℕ) → (choice_at S C B s c).reward ≡ get_or (map reward_of (state_of m s)) c (pos 0)
  reward_same s c =
      elim (cases_lt c (length (state_of m s))) [
        | inl l ↦ ap (λ (x : ChoiceRow). x.reward) (choice_inside s c l).0 ∙ sym (get_or-map reward_of (state_of m s) c no_fields (pos 0) l)
        | inr l ↦ (
            let e = length-map (state_of m s) reward_of in
            ap (λ (x : ChoiceRow). x.reward) (choice_outside s c l) ∙ sym (get_or_past (map reward_of (state_of m s)) c (pos 0) (omega arith)))
      ]

  branches_same : (s c : ℕ) → branch_count S C B s c ≡ length (branches_at m s c)
  branches_same s c =
      elim (cases_lt c (length (state_of m s))) [
        | inl l ↦ (
            let r = choice_inside s c l in
            let first : ℕ = ahead (denominator_of m) all (index s c) in
            let k : ℕ = length (own_branches s c) in
            let room = branches_room (denominator_of m) all (index s c) (0, no_fields) (s, fields_at s c) r.2 r.1 in
            ap (λ (x : ChoiceRow). run x.first x.count (length B)) r.0
            ∙ cond-true (leb (first + k) (length B)) k 0 (le-leb (first + k) (length B) room)
            ∙ ap length (sym (at_inside s c l)))
        | inr l ↦ (
            ap (λ (x : ChoiceRow). run x.first x.count (length B)) (choice_outside s c l)
            ∙ same_both (leb 0 (length B)) 0
            ∙ ap length (sym (at_outside s c l)))
      ]

  branch_inside : (s c b : ℕ) → b < length (branches_at m s c) → c < length (state_of m s) → branch_at S C B s c b ≡ get_or (branches_at m s c) b (0, 0)
  branch_inside s c b h l =
      let r = choice_inside s c l in
      let count = branches_same s c in
      let own : length (branches_at m s c) ≡ length (own_branches s c) = ap length (at_inside s c l) in
      cond-true (ltb b (branch_count S C B s c)) (get_or B ((choice_at S C B s c).first + b) (0, 0)) (0, 0) (lt-ltb b (branch_count S C B s c) (omega arith))
      ∙ ap (λ (x : ChoiceRow). get_or B (x.first + b) (0, 0)) r.0
      ∙ branch-at (denominator_of m) all (index s c) b (0, no_fields) (s, fields_at s c) r.2 r.1 (omega arith)
      ∙ ap (λ (bs : List (ℕ × ℕ)). get_or bs b (0, 0)) (sym (at_inside s c l))

  branch_same : (s c b : ℕ) → branch_at S C B s c b ≡ get_or (branches_at m s c) b (0, 0)
  branch_same s c b =
      elim (cases_lt b (length (branches_at m s c))) [
        | inl h ↦ (elim (cases_lt c (length (state_of m s))) [
          | inl l ↦ branch_inside s c b h l
          | inr l ↦ (let z : length (branches_at m s c) ≡ 0 = ap length (at_outside s c l) in absurd (omega arith))
        ])
        | inr h ↦ (
            let count = branches_same s c in
            cond-false (ltb b (branch_count S C B s c)) (get_or B ((choice_at S C B s c).first + b) (0, 0)) (0, 0) (le-ltb b (branch_count S C B s c) (omega arith))
            ∙ sym (get_or_past (branches_at m s c) b (0, 0) h))
      ]

  -- the lists of a model give its table
  pub same_table : SameTable (list_table (denominator_of m) S C B) (model_table m)
  same_table = record {
    states = let a = length-take 257 m.states in let l = states_long 0 m.states in omega arith;
    denominator = refl;
    choices = choices_same;
    reward = reward_same;
    branches = branches_same;
    branch = branch_same;
  }
