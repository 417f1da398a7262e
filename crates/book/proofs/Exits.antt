-- The best exit of a node, one choice and one state at a time.
use Rattle.std.proofs.Common.{◌≡◌, ℕ, zero, suc, ◌+◌, ◌<◌, ◌≤◌, true, false, cond, eqb, List, length, take, ℤ, IfSome, Some, None, fold, filter, Option, sym, refl, ap, ◌∙◌, arith}
use Rattle.std.specs.List.{range_with_len}
use Rattle.std.proofs.lemmas.List.{take_all}
use Rattle.std.proofs.lemmas.Bool.{cond-true, cond-false}
use Rattle.table.specs.Limits.{Lawful}
use Rattle.components.specs.Inside.{inside}
use Rattle.components.specs.Nodes.{nodes, node_of, components, component_at}
use Rattle.rules.specs.Setting.{Setting}
use Rattle.rules.specs.Candidates.{leave_candidate}
use Rattle.rules.specs.Sweep.{better, over_choices, over_states, staying}
use Rattle.rules.specs.declared.exit.Candidate.{Candidate}
use Rattle.rules.proofs.Updates.{component_known}
use Rattle.book.specs.Facts.{node_states}
use Rattle.book.specs.Sweeps.{stay_in}
use Rattle.book.proofs.Folds.{fold_kept_more}

module _ (M : Setting) (f : ℕ → ℕ → ℤ) (s i : ℕ) (a before : Option Candidate) (so_far : before ≡ over_choices M f s i a) where
  one_more : over_choices M f s (i + 1) a ≡ cond (inside M.table s i) (over_choices M f s i a) (better (over_choices M f s i a) (leave_candidate f s i))
  one_more = let q : i + 1 ≡ suc i = omega arith in ap (λ (k : ℕ). over_choices M f s k a) q

  -- a choice that is inside is no candidate
  pub inside_more : inside M.table s i ≡ true → before ≡ over_choices M f s (i + 1) a
  inside_more e =
      so_far
      ∙ sym (cond-true (inside M.table s i) (over_choices M f s i a) (better (over_choices M f s i a) (leave_candidate f s i)) e)
      ∙ sym one_more

  -- one that leaves is
  pub leaving_more : inside M.table s i ≡ false → (z : ℤ) → z ≡ f s i
      → better before (record { value = z; exit = (leave_candidate f s i).exit }) ≡ over_choices M f s (i + 1) a
  leaving_more e z q =
      ap (λ (v : ℤ). better before (record { value = v; exit = (leave_candidate f s i).exit })) q
      ∙ ap (λ (o : Option Candidate). better o (leave_candidate f s i)) so_far
      ∙ sym (cond-false (inside M.table s i) (over_choices M f s i a) (better (over_choices M f s i a) (leave_candidate f s i)) e)
      ∙ sym one_more

-- over the leaving choices of one more state
abbrev pub over_state : Setting → (ℕ → ℕ → ℤ) → Option Candidate → ℕ → Option Candidate
over_state M f b s = over_choices M f s (M.table.choices s) b

-- the best over the states of a node is the fold over their list
pub over_kept : (M : Setting) (f : ℕ → ℕ → ℤ) (v n : ℕ) (a : Option Candidate)
    → fold (over_state M f) a (filter (λ s. eqb (node_of M.table s) v) (range_with_len 0 n)) ≡ over_states M f v n a
over_kept M f v zero a = refl
over_kept M f v (suc n) a =
    fold_kept_more (over_state M f) a (λ s. eqb (node_of M.table s) v) n
    ∙ ap (λ (b : Option Candidate). cond (eqb (node_of M.table n) v) (over_choices M f n (M.table.choices n) b) b) (over_kept M f v n a)

-- the best over the first i members
abbrev pub over_members : Setting → (ℕ → ℕ → ℤ) → List ℕ → Option Candidate → ℕ → Option Candidate
over_members M g ms a i = fold (over_state M g) a (take i ms)

module _ (M : Setting) (g : ℕ → ℕ → ℤ) (ms : List ℕ) (a : Option Candidate) where
  pub member_all : (v i : ℕ) → ms ≡ node_states M.table v → length ms ≤ i → over_members M g ms a i ≡ over_states M g v M.table.states a
  member_all v i all end =
      ap (λ (l : List ℕ). fold (over_state M g) a l) (take_all i ms end ∙ all)
      ∙ over_kept M g v M.table.states a

-- to stay, by what the node is
stays_go : (M : Setting) (bounds : List ℤ) (v : ℕ) (o : Option ℕ) → component_at M.table v ≡ o → stay_in o bounds ≡ staying M bounds v
unfolding staying
stays_go M bounds v None e = rw (e, staying)
stays_go M bounds v (Some i) e = rw (e, staying)

pub stays_is : (M : Setting) (bounds : List ℤ) (v : ℕ) → stay_in (component_at M.table v) bounds ≡ staying M bounds v
stays_is M bounds v = stays_go M bounds v (component_at M.table v) refl

-- the component that a node is has a bound
known_go : (M : Setting) → Lawful M.table → (v n : ℕ) → v < nodes M.table → n ≡ components M.table
    → (o : Option ℕ) → component_at M.table v ≡ o → IfSome o (λ i. i < n)
known_go M L v n l q None e = tt
known_go M L v n l q (Some i) e = let k = component_known M L v i l e in omega arith

pub stays_known : (M : Setting) → Lawful M.table → (v n : ℕ) → v < nodes M.table → n ≡ components M.table
    → IfSome (component_at M.table v) (λ i. i < n)
stays_known M L v n l q = known_go M L v n l q (component_at M.table v) refl
