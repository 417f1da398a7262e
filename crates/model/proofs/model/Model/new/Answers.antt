use Rattle.std.proofs.Common.{◌≡◌, ℕ, List, [], ◌∷◌, ◌++◌, pos, vec_items, ap, ◌∙◌, ap₂}
use Rattle.sources.specs.Rows.{list_table}
use Rattle.sources.specs.declared.list.StateRow.{StateRow}
use Rattle.sources.specs.declared.list.ChoiceRow.{ChoiceRow}
use Rattle.model.proofs.Pushes.{pushed}
use Rattle.model.proofs.Still.{still_lawful, still_least, still_largest}
use Rattle.model.proofs.model.Model.new.Goals as goal

pub returns : goal.returns
returns c =
    let states = c.in_ok-states.states in
    let choices = c.in_ok-choices.choices in
    let branches = c.in_ok-branches.branches in
    let state : StateRow = record { first = 0; count = 1 } in
    let choice : ChoiceRow = record { reward = pos 0; first = 0; count = 1 } in
    let s : vec_items c.push.new.self ≡ state ∷ [] =
    pushed c.push.result c.unwrap.result (vec_items states) _ _ c.unwrap.ensures c.push.ensures.items
    ∙ ap (λ (xs : List StateRow). xs ++ (state ∷ [])) c.in_ok-states.ensures.items in
    let k : vec_items c.push-2.new.self ≡ choice ∷ [] =
    pushed c.push-2.result c.unwrap-2.result (vec_items choices) _ _ c.unwrap-2.ensures c.push-2.ensures.items
    ∙ ap (λ (xs : List ChoiceRow). xs ++ (choice ∷ [])) c.in_ok-choices.ensures.items in
    let b : vec_items c.push-3.new.self ≡ (0, 1) ∷ [] =
    pushed c.push-3.result c.unwrap-3.result (vec_items branches) _ _ c.unwrap-3.ensures c.push-3.ensures.items
    ∙ ap (λ (xs : List (ℕ × ℕ)). xs ++ ((0, 1) ∷ [])) c.in_ok-branches.ensures.items in
    record {
      lawful = still_lawful;
      same =
          ap (λ (xs : List StateRow). list_table 1 xs (vec_items c.push-2.new.self) (vec_items c.push-3.new.self)) s
          ∙ ap₂ (λ (xs : List ChoiceRow) (ys : List (ℕ × ℕ)). list_table 1 (state ∷ []) xs ys) k b;
      least = still_least;
      largest = still_largest;
    }
