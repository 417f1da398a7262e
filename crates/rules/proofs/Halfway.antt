-- The halfway number of a step.
use Rattle.std.proofs.Common.{ℕ, ◌<◌, ◌≤◌, pos, ◌+ℤ◌, ◌≤ℤ◌, arith}
use Rattle.table.specs.Limits.{Lawful}
use Rattle.horizon.specs.Means.{round_down}
use Rattle.horizon.specs.Ring.{lin, more, once}
use Rattle.horizon.specs.Rounding.{down_below, down_next}
use Rattle.rules.specs.Setting.{Setting}
use Rattle.rules.specs.Refine.{best, gain, halfway}

module _ (M : Setting) (L : Lawful M.table) (t : ℕ → ℕ) (capped : (u : ℕ) → u < M.table.states → t u ≤ M.cap) where
  -- the halfway number of s is half of t(s) + the best worth, rounded down
  pub halfway_twice : (s : ℕ) → ((halfway M t s +ℤ halfway M t s) ≤ℤ (best M round_down t s +ℤ pos (t s)))
      × ((best M round_down t s +ℤ pos (t s)) ≤ℤ ((halfway M t s +ℤ halfway M t s) +ℤ pos 1))
  unfolding halfway
  halfway_twice s =
      let z = gain M round_down t s in
      let r = round_down z 2 in
      let a = down_below z 2 (omega arith) in
      let b = down_next z 2 (omega arith) in
      let m = more 1 r in
      let o = once r in
      (omega (arith, lin), omega (arith, lin))
