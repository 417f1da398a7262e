-- The steps of adding states, choices and branches.
use Rattle.std.proofs.Common.{◌≡◌, ℕ, ◌+◌, ◌*◌, ◌<◌, ◌≤◌, List, [], ◌∷◌, ◌++◌, map, length, vec_items, sym, ap, ap₂, ◌∙◌, subst, arith}
use Rattle.std.specs.List.{range_with_len}
use Rattle.std.proofs.lemmas.List.{append_assoc}
use Rattle.std.proofs.lemmas.List.FromFn.{map-range_with_len_more}
use Rattle.sources.specs.declared.list.StateRow.{StateRow}
use Rattle.sources.specs.declared.list.ChoiceRow.{ChoiceRow}
use Rattle.table.specs.Table.{Table}
use Rattle.model.specs.Copy.{StatesCopied, ChoicesCopied}
use Rattle.model.proofs.Copies.{choices_more, states_more}
use Rattle.sources.specs.declared.owned.OwnedList.{OwnedList}
use Rattle.samples.specs.Counts.{HasCounts}
use Rattle.samples.specs.Tables.{reward_at, numbered, Gives, Describes, ChoicesAdded, StatesAdded}
use Rattle.samples.proofs.Numbered.{choices_in, reward_in, branches_in, branch_in}

-- one branch more
pub branches_more : {X : Type 0} (f : ℕ → X) (k : ℕ) (x : X) (old mid new : List X)
    → mid ≡ old ++ map f (range_with_len 0 k) → new ≡ mid ++ (x ∷ []) → x ≡ f k → new ≡ old ++ map f (range_with_len 0 (k + 1))
branches_more f k x old mid new em en ex =
    en ∙ ap₂ (λ xs y. xs ++ (y ∷ [])) em ex ∙ append_assoc old (map f (range_with_len 0 k)) (f k ∷ [])
    ∙ ap (λ xs. old ++ xs) (sym (map-range_with_len_more f 0 k k (omega arith)))

-- one choice more, one state more
module _ (spread s k m : ℕ) (given : ℕ → ℕ → ℕ × ℕ → Type 0) (row : ChoiceRow)
    (old_c mid_c new_c : List ChoiceRow) (old_b mid_b new_b : List (ℕ × ℕ)) where
  pub choices_add : s < 256 → k < 16 → m ≤ 8 → ChoicesAdded spread s k m given old_c mid_c old_b mid_b
      → ((f : ℕ → ℕ × ℕ) → Gives m (given (16 * s + k)) f → new_b ≡ mid_b ++ map f (range_with_len 0 m))
      → new_c ≡ mid_c ++ (row ∷ []) → row.reward ≡ reward_at spread (16 * s + k) → row.first ≡ length mid_b → row.count ≡ m
      → ChoicesAdded spread s (k + 1) m given old_c new_c old_b new_b
  choices_add in_s in_k few p eb ec er ef en count branch d =
      let T : Table = numbered spread count branch in
      let many : T.branches s k ≡ m = branches_in spread count branch s k in_s in_k ∙ d.many s (omega arith) (omega arith) in
      let gives : Gives m (given (16 * s + k)) (T.branch s k) =
      λ b r l g. d.same (16 * s + k) (omega arith) (omega arith) b r l g ∙ sym (branch_in spread count branch s k b (omega arith)) in
      choices_more T s k row old_c mid_c new_c old_b mid_b new_b (p count branch d) (omega arith)
      (subst (λ (n : ℕ). new_b ≡ mid_b ++ map (T.branch s k) (range_with_len 0 n)) (sym many) (eb (T.branch s k) gives))
      ec (er ∙ sym (reward_in spread count branch s k in_s in_k)) ef (en ∙ sym many)

module _ (spread from to k m : ℕ) (given : ℕ → ℕ → ℕ × ℕ → Type 0) (row : StateRow) (old_s mid_s new_s : List StateRow)
    (old_c mid_c new_c : List ChoiceRow) (old_b mid_b new_b : List (ℕ × ℕ)) where
  pub states_add : from ≤ k → k < to → to ≤ 256 → StatesAdded spread from to k m given old_s mid_s old_c mid_c old_b mid_b
      → ChoicesAdded spread k 16 m given mid_c new_c mid_b new_b
      → new_s ≡ mid_s ++ (row ∷ []) → row.first ≡ length mid_c → row.count ≡ 16
      → StatesAdded spread from to (k + 1) m given old_s new_s old_c new_c old_b new_b
  states_add lo hi top p q es ef en count branch d start =
      let T : Table = numbered spread count branch in
      let sixteen : T.choices k ≡ 16 = choices_in spread count branch k (omega arith) in
      let here : Describes count branch k (k + 1) m given = record {
        many = λ s l h. d.many s (omega arith) (omega arith);
        same = λ n l h. d.same n (omega arith) (omega arith);
      } in
      states_more T k row mid_s new_s mid_c new_c mid_b new_b (p count branch d start)
      (subst (λ (n : ℕ). ChoicesCopied T k n mid_c new_c mid_b new_b) (sym sixteen) (q count branch here))
      (omega arith) es ef (en ∙ sym sixteen)

-- all states
pub states_all : (spread from to k m : ℕ) (given : ℕ → ℕ → ℕ × ℕ → Type 0) (old_s new_s : List StateRow) (old_c new_c : List ChoiceRow)
    (old_b new_b : List (ℕ × ℕ)) → k ≡ to → StatesAdded spread from to k m given old_s new_s old_c new_c old_b new_b
    → StatesAdded spread from to to m given old_s new_s old_c new_c old_b new_b
states_all spread from to k m given old_s new_s old_c new_c old_b new_b e p count branch d start =
    subst (λ (j : ℕ). StatesCopied (numbered spread count branch) j new_s new_c new_b) e (p count branch d start)

-- a table without states holds none
pub states_none : (T : Table) (o : OwnedList) → HasCounts 0 0 0 o → StatesCopied T 0 (vec_items o.states) (vec_items o.choices) (vec_items o.branches)
states_none T o e = record {
  size = sym o.states.ok.0 ∙ e.states;
  few_choices = omega (arith, o.choices.ok.0, e.choices);
  few_branches = omega (arith, o.branches.ok.0, e.branches);
  at = λ s l. absurd (omega arith);
  earned = λ i d l. absurd (omega (arith, o.choices.ok.0, e.choices));
}
