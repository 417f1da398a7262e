-- The start keeps the law of the start, and nothing else does.
use Rattle.std.proofs.Common.{◌≡◌, ℕ, ◌<◌, true, false, Option, sym, refl, ap, ◌∙◌, ⊎_elim}
use Rattle.std.proofs.lemmas.Bool.{cases_Bool, both_ways, cond-true, cond-false}
use Rattle.table.specs.Limits.{Lawful}
use Rattle.components.specs.Below.{first}
use Rattle.components.specs.Inside.{inside}
use Rattle.components.specs.Nodes.{nodes, node_of, components, in_component, lowest_of}
use Rattle.components.proofs.Below.{first_none}
use Rattle.rules.specs.Setting.{Setting, bottom, top}
use Rattle.rules.specs.Choosing.{at}
use Rattle.rules.specs.Book.{Book, exit_at, start}
use Rattle.rules.specs.Meaning.{TheOnly, FirstWith, StartLaw}
use Rattle.rules.specs.declared.exit.Exit.TheVariants.{Stay, Leave}
use Rattle.rules.proofs.Nodes.{lone_node, node_number, lowest_state, lowest_node, component_some, component_none}
use Rattle.rules.proofs.Start.{all, none, first_is_inside, exits, recorded_at, plan_at, start_fit}
use Rattle.rules.proofs.Same.{first_one, same_book}

module _ (M : Setting) (L : Lawful M.table) where
  first_recorded : (s : ℕ) → s < M.table.states → in_component M.table s ≡ true
      → FirstWith (M.table.choices s) (λ c. inside M.table s c ≡ true) (at (start M).recorded s)
  first_recorded s h e =
      rw (recorded_at M L s h ∙ cond-true (in_component M.table s) (first (M.table.choices s) (inside M.table s)) 0 e) (record {
        below = (first_is_inside M L s e).0;
        has = (first_is_inside M L s e).1;
        first = λ j l i. both_ways (inside M.table s j) (first_none (M.table.choices s) (inside M.table s) j l) i;
      })

  lone_recorded : (s : ℕ) → s < M.table.states → in_component M.table s ≡ false → at (start M).recorded s ≡ 0
  lone_recorded s h e = recorded_at M L s h ∙ cond-false (in_component M.table s) (first (M.table.choices s) (inside M.table s)) 0 e

  plan_stays : (s : ℕ) → s < M.table.states → in_component M.table s ≡ true → exit_at (start M).plan (node_of M.table s) ≡ Stay
  plan_stays s h e =
      let v = node_of M.table s in
      plan_at M L v (node_number M.table L s h) ∙ ap (λ (o : Option ℕ). exits M L o v) (component_some M.table L v s h refl e)

  plan_leaves : (s : ℕ) → s < M.table.states → in_component M.table s ≡ false → exit_at (start M).plan (node_of M.table s) ≡ Leave s 0
  plan_leaves s h e =
      let v = node_of M.table s in
      let l = node_number M.table L s h in
      plan_at M L v l ∙ ap (λ (o : Option ℕ). exits M L o v) (component_none M.table L v s h refl e)
      ∙ ap (λ (t : ℕ). Leave t 0) (lone_node M.table L s (lowest_of M.table v) h (lowest_state M.table L v l) (lowest_node M.table L v l) e)

  start_law : StartLaw M (start M)
  unfolding start
  start_law = record {
    lengths = (start_fit M L).lengths;
    vector = none M L;
    recorded = first_recorded;
    unrecorded = lone_recorded;
    lo = all M L (components M.table) (bottom M);
    hi = all M L (components M.table) (top M);
    x = all M L (nodes M.table) (top M);
    y = all M L (nodes M.table) (bottom M);
    stays = plan_stays;
    leaves = plan_leaves;
  }

  -- two books of which the law holds are the same
  same_start : (A C : Book) → StartLaw M A → StartLaw M C → A ≡ C
  same_start A C P Q = same_book M A C P.lengths Q.lengths (record {
    vector = λ s h. P.vector s h ∙ sym (Q.vector s h);
    recorded = λ s h.
        ⊎_elim
        (λ (e : in_component M.table s ≡ true).
        first_one (M.table.choices s) (λ c. inside M.table s c ≡ true) (at A.recorded s) (at C.recorded s) (P.recorded s h e) (Q.recorded s h e))
        (λ (e : in_component M.table s ≡ false). P.unrecorded s h e ∙ sym (Q.unrecorded s h e))
        (cases_Bool (in_component M.table s));
    lo = λ k l. P.lo k l ∙ sym (Q.lo k l);
    hi = λ k l. P.hi k l ∙ sym (Q.hi k l);
    x = λ v l. P.x v l ∙ sym (Q.x v l);
    y = λ v l. P.y v l ∙ sym (Q.y v l);
    plan = λ v l.
        let s = lowest_of M.table v in
        let h = lowest_state M.table L v l in
        rw (sym (lowest_node M.table L v l))
        (⊎_elim
        (λ (e : in_component M.table s ≡ true). P.stays s h e ∙ sym (Q.stays s h e))
        (λ (e : in_component M.table s ≡ false). P.leaves s h e ∙ sym (Q.leaves s h e))
        (cases_Bool (in_component M.table s)));
  })

  pub the_start : TheOnly (StartLaw M) (start M)
  the_start = record { has = start_law; only = λ A w. same_start A (start M) w start_law }
