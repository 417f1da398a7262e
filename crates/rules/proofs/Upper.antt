-- No strategy beats the upper bounds of a sound book.
use Rattle.std.proofs.Common.{◌≡◌, ℕ, ◌<◌, true, false, pos, ◌+ℤ◌, inl, inr, ⊎_elim, arith}
use Rattle.std.proofs.lemmas.Bool.{cases_Bool}
use Rattle.table.specs.Limits.{Lawful}
use Rattle.horizon.specs.Upper.{InsideChoice, UpperHypotheses}
use Rattle.horizon.specs.Ring.{lin, mono}
use Rattle.horizon.proofs.UpperBounds.{bound_of_upper_values}
use Rattle.components.specs.Inside.{inside}
use Rattle.components.specs.Nodes.{node_of, component_of}
use Rattle.components.specs.Depth.{depth}
use Rattle.rules.specs.Setting.{Setting, least_reward, largest_reward}
use Rattle.rules.specs.Choosing.{at_z}
use Rattle.rules.specs.Book.{Book}
use Rattle.rules.specs.Sound.{Sound}
use Rattle.rules.specs.Promises.{UpperHolds}
use Rattle.rules.proofs.Nodes.{stays_node, inside_component, node_number, depth_low, depth_falls}
use Rattle.rules.proofs.Sides.{rewards_between}

module _ (M : Setting) (L : Lawful M.table) (B : Book) (S : Sound M B) where
  abbrev u : ℕ → ℕ
  u = S.upper.0

  inside_case : (s c : ℕ) → s < M.table.states → inside M.table s c ≡ true
      → InsideChoice M.table M.scale (node_of M.table) (at_z B.x) u s c
  inside_case s c h i = record {
    stays = λ b k. stays_node M.table L s c b i k;
    bias =
        let a = S.upper.1.bound s c i in
        let b = S.over.stay s h (inside_component M.table L s c i) in
        let m = mono M.table.denominator (at_z B.hi (component_of M.table s) +ℤ pos (u s)) (at_z B.x (node_of M.table s) +ℤ pos (u s)) (omega (arith, lin)) in
        omega (arith, lin);
  }

  hypotheses : UpperHypotheses M.table M.scale M.table.states M.cap (least_reward M.table) (node_of M.table) (depth M.table) (at_z B.x) u
  hypotheses = record {
    depths = λ s h. depth_low M.table L (node_of M.table s) (node_number M.table L s h);
    vectors = S.upper.1.capped;
    values = λ s h. (S.fit.x (node_of M.table s) (node_number M.table L s h)).0;
    choices = λ s c h l.
        ⊎_elim
        (λ (i : inside M.table s c ≡ true). inl (inside_case s c h i))
        (λ (i : inside M.table s c ≡ false). inr (record { gain = S.over.leave s c h l i; descends = depth_falls M.table L s c h l i }))
        (cases_Bool (inside M.table s c));
  }

  pub sound_upper : UpperHolds M B
  sound_upper σ names N s past h =
      bound_of_upper_values M.table M.scale M.table.states M.cap (least_reward M.table) (largest_reward M.table)
      (node_of M.table) (depth M.table) (at_z B.x) u L (rewards_between M.table) hypotheses σ names N s past h
