-- What the rows of a layout hold, place by place.
use Rattle.std.proofs.Common.{◌≡◌, ℕ, ◌+◌, ◌*◌, ◌<◌, ◌≤◌, false, ltb, leb, List, length, get_or, take, drop, refl, ap, ◌∙◌, subst, inl, inr, arith}
use Rattle.std.proofs.lemmas.List.{length-take, length-drop, get_or-take, get_or-drop}
use Rattle.std.proofs.lemmas.Bool.{cases_Bool, cond-true, cond-false, leb-true, lt-ltb}
use Rattle.table.specs.Table.{Table}
use Rattle.table.specs.Limits.{Lawful}
use Rattle.sources.specs.Rows.{run, no_state, no_choice, state_count, state_at, choice_at}
use Rattle.sources.specs.declared.list.StateRow.{StateRow}
use Rattle.sources.specs.declared.list.ChoiceRow.{ChoiceRow}
use Rattle.model.proofs.Unbroken.{model_lawful}
use Rattle.components.specs.Inside.{inside}
use Rattle.components.specs.Nodes.{nodes, components}
use Rattle.components.proofs.Law.{nodes_within}
use Rattle.book.specs.Layouts.{state_rows, choice_rows, branch_rows, inside_flags, layout_table, row_of, choice_of}
use Rattle.book.specs.declared.layout.Layout.{Layout}

-- a lawful table has few nodes, and no more components
pub lawful_few : (T : Table) → Lawful T → (nodes T ≤ 256) × (components T ≤ 256)
lawful_few T L =
    let w = nodes_within T.states T L refl in
    let a = L.states.1 in
    (omega (arith, w.0), omega (arith, w.0, w.1))

-- a run that has places has them all, within its list
run_whole : (first count size : ℕ) → 1 ≤ run first count size → (run first count size ≡ count) × (first + count ≤ size)
run_whole first count size h =
    elim (cases_Bool (leb (first + count) size)) [
      | inl e ↦ (cond-true (leb (first + count) size) count 0 e, leb-true (first + count) size e)
      | inr e ↦ (let z = cond-false (leb (first + count) size) count 0 e in absurd (omega arith))
    ]

module _ (l : Layout) where
  -- the table of a layout is lawful
  pub law : Lawful (layout_table l)
  law = model_lawful l.model

  -- there are as many states as rows
  pub states_are : (layout_table l).states ≡ length (state_rows l)
  states_are = let a = law.states.1 in omega arith

  -- there are few nodes and few components
  pub nodes_few : nodes (layout_table l) ≤ 256
  nodes_few = (lawful_few (layout_table l) law).0

  pub components_few : components (layout_table l) ≤ 256
  components_few = (lawful_few (layout_table l) law).1

  module _ (s : ℕ) (h : s < (layout_table l).states) where
    state_is : state_at (state_rows l) (choice_rows l) (branch_rows l) s ≡ row_of l s
    state_is =
        cond-true (ltb s (state_count (state_rows l) (choice_rows l) (branch_rows l))) (row_of l s) no_state
        (lt-ltb s (state_count (state_rows l) (choice_rows l) (branch_rows l)) h)

    -- the choices of a state
    pub count_is : (layout_table l).choices s ≡ (row_of l s).count
    count_is =
        let r = state_at (state_rows l) (choice_rows l) (branch_rows l) s in
        (run_whole r.first r.count (length (choice_rows l)) (law.choices s h).0).0 ∙ ap (λ (x : StateRow). x.count) state_is

    first_is : (state_at (state_rows l) (choice_rows l) (branch_rows l) s).first ≡ (row_of l s).first
    first_is = ap (λ (x : StateRow). x.first) state_is

    module _ (c : ℕ) (k : c < (layout_table l).choices s) where
      choice_is : choice_at (state_rows l) (choice_rows l) (branch_rows l) s c ≡ choice_of l s c
      choice_is =
          let n = (layout_table l).choices s in
          let first = (state_at (state_rows l) (choice_rows l) (branch_rows l) s).first in
          cond-true (ltb c n) (get_or (choice_rows l) (first + c) no_choice) no_choice (lt-ltb c n k)
          ∙ ap (λ (i : ℕ). get_or (choice_rows l) (i + c) no_choice) first_is

      -- the flag of a choice
      pub flag_is : get_or (inside_flags l) (16 * s + c) false ≡ inside (layout_table l) s c
      flag_is = l.held.insides s c (record { state = h; choice = k })

      pub flag_within : 16 * s + c < length (inside_flags l)
      flag_within = let few = (law.choices s h).1 in let e = l.held.inside_size in omega arith

      -- the branches of a choice
      pub branches_are : (layout_table l).branches s c ≡ (choice_of l s c).count
      branches_are =
          let r = choice_at (state_rows l) (choice_rows l) (branch_rows l) s c in
          (run_whole r.first r.count (length (branch_rows l)) (law.branches s c h k).0).0 ∙ ap (λ (x : ChoiceRow). x.count) choice_is

      pub branches_within : (choice_of l s c).first + (choice_of l s c).count ≤ length (branch_rows l)
      branches_within =
          let r = choice_at (state_rows l) (choice_rows l) (branch_rows l) s c in
          let w = (run_whole r.first r.count (length (branch_rows l)) (law.branches s c h k).0).1 in
          subst (λ (x : ChoiceRow). x.first + x.count ≤ length (branch_rows l)) choice_is w

      first_branch_is : (choice_at (state_rows l) (choice_rows l) (branch_rows l) s c).first ≡ (choice_of l s c).first
      first_branch_is = ap (λ (x : ChoiceRow). x.first) choice_is

      pub branch_is : (b : ℕ) → b < (layout_table l).branches s c → (layout_table l).branch s c b ≡ get_or (branch_rows l) ((choice_of l s c).first + b) (0, 0)
      branch_is b m =
          let n = (layout_table l).branches s c in
          let first = (choice_at (state_rows l) (choice_rows l) (branch_rows l) s c).first in
          cond-true (ltb b n) (get_or (branch_rows l) (first + b) (0, 0)) (0, 0) (lt-ltb b n m)
          ∙ ap (λ (i : ℕ). get_or (branch_rows l) (i + b) (0, 0)) first_branch_is

      -- the run of a choice, cut out of rows that have all of it
      module _ (rows run : List (ℕ × ℕ)) (all : (choice_of l s c).first + (choice_of l s c).count ≤ length rows)
          (cut : run ≡ take (choice_of l s c).count (drop (choice_of l s c).first rows)) where
        pub cut_size : length run ≡ (layout_table l).branches s c
        cut_size =
            let e = ap (λ (xs : List (ℕ × ℕ)). length xs) cut in
            let t = length-take (choice_of l s c).count (drop (choice_of l s c).first rows) in
            let d = length-drop (choice_of l s c).first rows in
            let n = branches_are in
            omega arith

        pub cut_at : (b : ℕ) → b < (layout_table l).branches s c → get_or {A = ℕ × ℕ} run b (0, 0) ≡ get_or {A = ℕ × ℕ} rows ((choice_of l s c).first + b) (0, 0)
        cut_at b m =
            ap (λ (xs : List (ℕ × ℕ)). get_or xs b (0, 0)) cut
            ∙ get_or-take (choice_of l s c).count (drop (choice_of l s c).first rows) b (0, 0) (let n = branches_are in omega arith)
            ∙ get_or-drop (choice_of l s c).first rows b (0, 0)
