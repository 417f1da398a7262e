-- The plan of a sound book earns its lower bounds.
use Rattle.std.proofs.Common.{◌≡◌, ℕ, ◌<◌, true, ◌⊎◌, ℤ, pos, ◌+ℤ◌, ◌*ℤ◌, ◌≤ℤ◌, sym, refl, ap, ◌∙◌, inl, inr, arith}
use Rattle.table.specs.Table.{successor}
use Rattle.table.specs.Limits.{Lawful}
use Rattle.horizon.specs.Sums.{branch_sum_z}
use Rattle.horizon.specs.Lower.{StayingState, MovingState, LowerHypotheses}
use Rattle.horizon.specs.Ring.{lin, mono, le_same}
use Rattle.horizon.specs.Branches.{branch_sum_z_from}
use Rattle.horizon.proofs.LowerBounds.{bound_of_lower_values}
use Rattle.components.specs.Inside.{inside}
use Rattle.components.specs.Nodes.{node_of, in_component, component_of}
use Rattle.rules.specs.Setting.{Setting, least_reward, largest_reward}
use Rattle.rules.specs.Choosing.{at, at_z}
use Rattle.rules.specs.Book.{Book, exit_at}
use Rattle.rules.specs.Play.{play}
use Rattle.rules.specs.Sound.{Sound}
use Rattle.rules.specs.Promises.{LowerHolds}
use Rattle.rules.specs.declared.exit.Exit.TheVariants.{Stay, Leave}
use Rattle.rules.proofs.Nodes.{stays_node, node_number}
use Rattle.rules.proofs.Sides.{rewards_between}
use Rattle.rules.proofs.Plays.{exit, staying, leaving, nearing, way, worth_at, plays}
use Rattle.rules.proofs.PlanDepth.{is_stay, stay_is, leave_is, plan_depth, plan_shallow, plan_stays, plan_falls}

module _ (M : Setting) (L : Lawful M.table) (B : Book) (S : Sound M B) where
  abbrev v : ℕ → ℕ
  v = S.lower.0

  abbrev y : ℕ → ℤ
  y s = at_z B.y (node_of M.table s)

  abbrev p : ℕ → ℕ
  p = play M.table B

  stays : (s : ℕ) → s < M.table.states → exit M L B S s ≡ Stay → p s ≡ at B.recorded s → in_component M.table s ≡ true
      → StayingState M.table M.scale p (plan_depth M L B S) y v s
  stays s h e q i =
      let T = M.table in
      let stay : inside T s (p s) ≡ true = rw q (S.lower.1.stays s h i) in
      record {
        here = plan_stays M L B S s (stay_is (exit M L B S s) e);
        stays = λ b k. plan_stays M L B S (successor T s (p s) b)
            (ap (λ (n : ℕ). is_stay (exit_at B.plan n)) (stays_node T L s (p s) b stay k) ∙ stay_is (exit M L B S s) e);
        keeps = λ b k. ap (at_z B.y) (stays_node T L s (p s) b stay k);
        bias =
            let a = S.lower.1.bound s h i in
            let l = (worth_at M L B S s h Stay e s h refl).1 in
            let m = mono T.denominator (y s +ℤ pos (v s)) (at_z B.lo (component_of T s) +ℤ pos (v s)) (omega (arith, lin)) in
            rw q (omega (arith, lin));
      }

  moves : (s : ℕ) → s < M.table.states → (t c : ℕ) → exit M L B S s ≡ Leave t c
      → (pos M.table.denominator *ℤ y s) ≤ℤ branch_sum_z M.table s (p s) y
      → MovingState M.table p (plan_depth M L B S) y s
  moves s h t c e g = record { gain = g; descends = plan_falls M L B S s h (leave_is (exit M L B S s) t c e) }

  each : (s : ℕ) → s < M.table.states
      → StayingState M.table M.scale p (plan_depth M L B S) y v s ⊎ MovingState M.table p (plan_depth M L B S) y s
  each s h =
      elim (way M L B S s h) [
        | staying e q i ↦ inl (stays s h e q i)
        | leaving t c e x ↦ inr (moves s h t c e x.gain)
        | nearing t c e n ↦ inr (moves s h t c e
            (branch_sum_z_from M.table L s (p s) h (plays M L B S s h) y (y s)
            (λ b k. le_same (y s) (y (successor M.table s (p s) b)) (ap (at_z B.y) (sym (stays_node M.table L s (p s) b n.inside_choice k))))))
      ]

  hypotheses : LowerHypotheses M.table M.scale M.table.states M.cap (largest_reward M.table) p (plan_depth M L B S) y v
  hypotheses = record {
    depths = plan_shallow M L B S;
    vectors = λ s h e. S.lower.1.capped s h;
    values = λ s h. (S.fit.y (node_of M.table s) (node_number M.table L s h)).1;
    states = each;
  }

  pub sound_lower : LowerHolds M B
  sound_lower = record {
    names = plays M L B S;
    earns = λ N s past h.
        bound_of_lower_values M.table M.scale M.table.states M.cap (least_reward M.table) (largest_reward M.table) p (plan_depth M L B S) y v
        L (rewards_between M.table) (plays M L B S) hypotheses N s past h;
  }
