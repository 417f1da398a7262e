-- The update of a node: its new numbers lie in range, and its new exit names a choice of the node. One text for both sides.
use Rattle.std.proofs.Common.{◌≡◌, ℕ, ◌<◌, Bool, cond, List, length, ℤ, pos, ◌≤ℤ◌, Some, Option, sym, ap, ◌∙◌, subst, ⊎_elim, arith}
use lib.Signed.{lt_z}
use Rattle.std.proofs.lemmas.List.{get_or-set_same, get_or-set_other, length-set}
use Rattle.std.proofs.lemmas.Bool.{cases_eq, cond_both}
use Rattle.table.specs.Table.{successor}
use Rattle.table.specs.Limits.{Lawful}
use Rattle.horizon.specs.Means.{Rounding, round_down, round_up}
use Rattle.horizon.specs.MeansLemmas.{mean_from, mean_to}
use Rattle.components.specs.Nodes.{nodes, node_of, components, lowest_of, component_at}
use Rattle.rules.specs.Choosing.{at_z}
use Rattle.rules.specs.Setting.{Setting, bottom, top}
use Rattle.rules.specs.Book.{Book, exit_at}
use Rattle.rules.specs.Sweep.{Candidate, best_of, best_x, best_y, value_or, exit_or, update}
use Rattle.rules.specs.Candidates.{CandidateOf, stays, leaves, FirstBest}
use Rattle.rules.specs.Fit.{Within, ExitFits, PlanFits, Lengths, Fit}
use Rattle.rules.specs.declared.exit.Exit.{Exit}
use Rattle.rules.specs.declared.exit.Exit.TheVariants.{Stay}
use Rattle.rules.proofs.Nodes.{lowest_state, lowest_node, component_is, own_component, node_number}
use Rattle.rules.proofs.Sides.{Side, lower_side, upper_side}
use Rattle.rules.proofs.Candidates.{best_first}

-- the component that a node is has a number
pub component_known : (M : Setting) → Lawful M.table → (v i : ℕ) → v < nodes M.table → component_at M.table v ≡ Some i → i < components M.table
component_known M L v i l e =
    let s = lowest_of M.table v in
    let h = lowest_state M.table L v l in
    let w = component_is M.table L v i s h (lowest_node M.table L v l) e in
    subst (λ (j : ℕ). j < components M.table) w.1 (own_component M.table L s h w.0)

-- Both sides
module _ (M : Setting) (L : Lawful M.table) (rounds : Rounding) (side : Side rounds) (bounds values : List ℤ) (v : ℕ) (l : v < nodes M.table) where
  -- the best candidate's number and exit
  pub best : Candidate
  best = (best_first M L rounds bounds values v l).0

  pub best_is : FirstBest (CandidateOf M rounds bounds values v) best
  unfolding best
  best_is = (best_first M L rounds bounds values v l).2

  pub value_is : (z : ℤ) → value_or (best_of M rounds bounds values v) z ≡ best.value
  unfolding best
  value_is z = ap (λ (o : Option Candidate). value_or o z) (best_first M L rounds bounds values v l).1

  pub exit_is : (e : Exit) → exit_or (best_of M rounds bounds values v) e ≡ best.exit
  unfolding best
  exit_is e = ap (λ (o : Option Candidate). exit_or o e) (best_first M L rounds bounds values v l).1

  -- a number in range
  module _ (in_bounds : Within M (components M.table) (at_z bounds)) (values_in_bounds : Within M (nodes M.table) (at_z values)) where
    candidate_within : (a : Candidate) → CandidateOf M rounds bounds values v a → (bottom M ≤ℤ a.value) × (a.value ≤ℤ top M)
    candidate_within a x =
        elim x [
          | stays i g q ↦ rw (ap (λ (z : Candidate). z.value) q) (in_bounds i (component_known M L v i l g))
          | leaves s c w q ↦
              (let h = w.choice.state in
              let k = w.choice.choice in
              let f : ℕ → ℤ = λ u. at_z values (node_of M.table u) in
              let n : (b : ℕ) → b < M.table.branches s c → node_of M.table (successor M.table s c b) < nodes M.table =
              λ b m. node_number M.table L (successor M.table s c b) (L.successors s c b h k m) in
              rw (ap (λ (z : Candidate). z.value) q) (
                mean_from rounds side.equal side.larger M.table L s c h k f (bottom M)
                    (λ b m. (values_in_bounds (node_of M.table (successor M.table s c b)) (n b m)).0),
                mean_to rounds side.equal side.larger M.table L s c h k f (top M)
                    (λ b m. (values_in_bounds (node_of M.table (successor M.table s c b)) (n b m)).1),
              ))
        ]

    pub value_within : (z : ℤ) → (bottom M ≤ℤ value_or (best_of M rounds bounds values v) z) × (value_or (best_of M rounds bounds values v) z ≤ℤ top M)
    value_within z = rw (value_is z) (candidate_within best best_is.candidate)

  -- an exit of the node
  candidate_exit : (a : Candidate) → CandidateOf M rounds bounds values v a → ExitFits M v a.exit
  candidate_exit a x =
      elim x [
        | stays i g q ↦ subst (λ (z : Candidate). ExitFits M v z.exit) (sym q) tt
        | leaves s c w q ↦ subst (λ (z : Candidate). ExitFits M v z.exit) (sym q) (w.choice.state, w.node, w.choice.choice)
      ]

  pub best_exit_fits : (e : Exit) → ExitFits M v (exit_or (best_of M rounds bounds values v) e)
  best_exit_fits e = rw (exit_is e) (candidate_exit best best_is.candidate)

-- What an update makes of the three lists by node
module _ (M : Setting) (v : ℕ) (B : Book) where
  abbrev pub new_x : ℤ
  new_x = value_or (best_x M v B) (at_z B.x v)

  abbrev pub new_y : ℤ
  new_y = value_or (best_y M v B) (at_z B.y v)

  abbrev pub rises : Bool
  rises = lt_z (at_z B.y v) new_y

  abbrev pub new_exit : Exit
  new_exit = cond rises (exit_or (best_y M v B) (exit_at B.plan v)) (exit_at B.plan v)

  pub x_here : v < length B.x → at_z (update M v B).x v ≡ new_x
  unfolding update
  x_here l = get_or-set_same B.x v new_x (pos 0) l

  pub x_other : (w : ℕ) → (w ≡ v → ⊥) → at_z (update M v B).x w ≡ at_z B.x w
  unfolding update
  x_other w n = get_or-set_other B.x v w new_x (pos 0) n

  pub y_here : v < length B.y → at_z (update M v B).y v ≡ new_y
  unfolding update
  y_here l = get_or-set_same B.y v new_y (pos 0) l

  pub y_other : (w : ℕ) → (w ≡ v → ⊥) → at_z (update M v B).y w ≡ at_z B.y w
  unfolding update
  y_other w n = get_or-set_other B.y v w new_y (pos 0) n

  pub plan_here : v < length B.plan → exit_at (update M v B).plan v ≡ new_exit
  unfolding update
  plan_here l = get_or-set_same B.plan v new_exit Stay l

  pub plan_other : (w : ℕ) → (w ≡ v → ⊥) → exit_at (update M v B).plan w ≡ exit_at B.plan w
  unfolding update
  plan_other w n = get_or-set_other B.plan v w new_exit Stay n

  pub update_lengths : Lengths M B → Lengths M (update M v B)
  unfolding update
  update_lengths S = record {
    vector = S.vector;
    recorded = S.recorded;
    lo = S.lo;
    hi = S.hi;
    x = length-set B.x v new_x ∙ S.x;
    y = length-set B.y v new_y ∙ S.y;
    plan = length-set B.plan v new_exit ∙ S.plan;
  }

module _ (M : Setting) (L : Lawful M.table) (v : ℕ) (B : Book) (S : Fit M B) where
  pub update_x : Within M (nodes M.table) (at_z (update M v B).x)
  update_x w l =
      ⊎_elim
      (λ (e : w ≡ v).
      let k : v < nodes M.table = rw e at l in
      rw e (rw (x_here M v B (let q = S.lengths.x in omega arith))
      (value_within M L round_up upper_side B.hi B.x v k S.hi S.x (at_z B.x v))))
      (λ (n : w ≡ v → ⊥). rw (x_other M v B w n) (S.x w l))
      (cases_eq w v)

  pub update_y : Within M (nodes M.table) (at_z (update M v B).y)
  update_y w l =
      ⊎_elim
      (λ (e : w ≡ v).
      let k : v < nodes M.table = rw e at l in
      rw e (rw (y_here M v B (let q = S.lengths.y in omega arith))
      (value_within M L round_down lower_side B.lo B.y v k S.lo S.y (at_z B.y v))))
      (λ (n : w ≡ v → ⊥). rw (y_other M v B w n) (S.y w l))
      (cases_eq w v)

  pub update_plan : PlanFits M (exit_at (update M v B).plan)
  update_plan w l =
      ⊎_elim
      (λ (e : w ≡ v).
      let k : v < nodes M.table = rw e at l in
      rw e (rw (plan_here M v B (let q = S.lengths.plan in omega arith))
      (cond_both (rises M v B) (exit_or (best_y M v B) (exit_at B.plan v)) (exit_at B.plan v) (ExitFits M v)
      (λ _. best_exit_fits M L round_down lower_side B.lo B.y v k (exit_at B.plan v)) (λ _. S.plan v k))))
      (λ (n : w ≡ v → ⊥). rw (plan_other M v B w n) (S.plan w l))
      (cases_eq w v)

  pub update_fit : Fit M (update M v B)
  unfolding update
  update_fit = record {
    lengths = update_lengths M v B S.lengths;
    vector = S.vector;
    recorded = S.recorded;
    lo = S.lo;
    hi = S.hi;
    x = update_x;
    y = update_y;
    plan = update_plan;
  }
