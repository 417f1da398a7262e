-- How large the gains and the halfway numbers of a component are, and when a step is held.
use Rattle.std.proofs.Common.{◌≡◌, ℕ, ◌^◌, ◌<◌, ◌≤◌, Bool, true, false, not, ◌||◌, leb, ℤ, pos, ◌-ℤ◌, neg_ℤ, ◌≤ℤ◌, sym, ◌∙◌, ⊎_elim, arith}
use lib.Signed.{lt_z}
use Rattle.std.proofs.lemmas.Bool.{cases_Bool, le-leb, or_left, or_right, not_from_true, not_from_false}
use Rattle.table.specs.Table.{Table}
use Rattle.table.specs.Limits.{Lawful}
use Rattle.horizon.specs.Means.{Rounding, round_down}
use Rattle.horizon.specs.Ring.{lin}
use Rattle.components.specs.Below.{every}
use Rattle.components.specs.Nodes.{in_component, components, states_of}
use Rattle.components.proofs.Below.{every_from}
use Rattle.rules.specs.Choosing.{largest, smallest}
use Rattle.rules.specs.Setting.{Setting, setting_of}
use Rattle.rules.specs.Refine.{gain, halfway, shifted, held}
use Rattle.rules.proofs.Choosing.{largest_bound, largest_reached, smallest_bound, smallest_reached}
use Rattle.rules.proofs.Nodes.{some_state, of_component}
use Rattle.rules.proofs.Halfway.{halfway_twice}
use Rattle.rules.proofs.Sides.{Side, lower_side}
use Rattle.rules.proofs.StepFacts.{shifted_capped}
use Rattle.book.proofs.Gains.{best_within}
use Rattle.book.proofs.RunSums.{natural_is}

module _ (T : Table) (L : Lawful T) (t : ℕ → ℕ) (capped : (s : ℕ) → s < T.states → t s ≤ 2 ^ 46) (s : ℕ) (h : s < T.states) (e : in_component T s ≡ true) where
  pub gain_within : (rounds : Rounding) → Side rounds
      → (neg_ℤ (pos (2 ^ 50)) ≤ℤ gain (setting_of T) rounds t s) × (gain (setting_of T) rounds t s ≤ℤ pos (2 ^ 50))
  gain_within rounds side =
      let b = best_within T L rounds side t capped s h e in
      let x = b.0 in
      let y = b.1 in
      let c = capped s h in
      (omega (arith, lin), omega (arith, lin))

  pub halfway_within : (neg_ℤ (pos (2 ^ 50)) ≤ℤ halfway (setting_of T) t s) × (halfway (setting_of T) t s ≤ℤ pos (2 ^ 50))
  halfway_within =
      let b = best_within T L round_down lower_side t capped s h e in
      let x = b.0 in
      let y = b.1 in
      let c = capped s h in
      let d = halfway_twice (setting_of T) L t capped s in
      let u = d.0 in
      let w = d.1 in
      (omega (arith, lin), omega (arith, lin))

-- so are the least and the largest of them
module _ (T : Table) (L : Lawful T) (t : ℕ → ℕ) (capped : (s : ℕ) → s < T.states → t s ≤ 2 ^ 46) (k : ℕ) (known : k < components T) where
  pub least_within : (neg_ℤ (pos (2 ^ 50)) ≤ℤ smallest T.states (states_of T k) (halfway (setting_of T) t))
      × (smallest T.states (states_of T k) (halfway (setting_of T) t) ≤ℤ pos (2 ^ 50))
  least_within =
      let o = some_state T L k known in
      let x = smallest_reached T.states (states_of T k) (halfway (setting_of T) t) o.0 o.1 o.2 in
      let b = halfway_within T L t capped x.0 x.1 (of_component T L k x.0 x.2).0 in
      let p = b.0 in
      let q = b.1 in
      let e = x.3 in
      (omega (arith, lin), omega (arith, lin))

  pub largest_within : (neg_ℤ (pos (2 ^ 50)) ≤ℤ largest T.states (states_of T k) (halfway (setting_of T) t))
      × (largest T.states (states_of T k) (halfway (setting_of T) t) ≤ℤ pos (2 ^ 50))
  largest_within =
      let o = some_state T L k known in
      let x = largest_reached T.states (states_of T k) (halfway (setting_of T) t) o.0 o.1 o.2 in
      let b = halfway_within T L t capped x.0 x.1 (of_component T L k x.0 x.2).0 in
      let p = b.0 in
      let q = b.1 in
      let e = x.3 in
      (omega (arith, lin), omega (arith, lin))

-- a step is held exactly if the halfway numbers are more than H apart
module _ (M : Setting) (L : Lawful M.table) (t : ℕ → ℕ) (k : ℕ) (known : k < components M.table) where
  pub shifted_is : (s : ℕ) → s < M.table.states → states_of M.table k s ≡ true
      → halfway M t s -ℤ smallest M.table.states (states_of M.table k) (halfway M t) ≡ pos (shifted M t k s)
  unfolding shifted
  shifted_is s h e =
      let b = smallest_bound M.table.states (states_of M.table k) (halfway M t) s h e in
      natural_is (halfway M t s -ℤ smallest M.table.states (states_of M.table k) (halfway M t)) (omega (arith, lin))

  abbrev small : ℕ → Bool
  small s = not (states_of M.table k s) || leb (shifted M t k s) M.cap

  not_held : ((s : ℕ) → s < M.table.states → states_of M.table k s ≡ true → shifted M t k s ≤ M.cap) → held M t k ≡ false
  unfolding held
  not_held w =
      not_from_true (every M.table.states small) (every_from M.table.states small
      (λ s h.
      ⊎_elim
      (λ (m : states_of M.table k s ≡ true).
      or_right (not (states_of M.table k s)) (leb (shifted M t k s) M.cap) (le-leb (shifted M t k s) M.cap (w s h m)))
      (λ (m : states_of M.table k s ≡ false).
      or_left (not (states_of M.table k s)) (leb (shifted M t k s) M.cap) (not_from_false (states_of M.table k s) m))
      (cases_Bool (states_of M.table k s))))

  pub held_is : held M t k ≡ lt_z (pos M.cap)
      (largest M.table.states (states_of M.table k) (halfway M t) -ℤ smallest M.table.states (states_of M.table k) (halfway M t))
  held_is =
      let n = M.table.states in
      let p = states_of M.table k in
      let high : ℤ = largest n p (halfway M t) in
      let low : ℤ = smallest n p (halfway M t) in
      let o = some_state M.table L k known in
      ⊎_elim
      (λ (e : lt_z (pos M.cap) (high -ℤ low) ≡ true).
      let x = largest_reached n p (halfway M t) o.0 o.1 o.2 in
      ⊎_elim
      (λ (g : held M t k ≡ true). g ∙ sym e)
      (λ (g : held M t k ≡ false).
      let a = shifted_capped M L t k x.0 x.1 x.2 g in
      let b = shifted_is x.0 x.1 x.2 in
      let q = x.3 in
      let z : ⊥ = omega (arith, lin) in absurd z)
      (cases_Bool (held M t k)))
      (λ (e : lt_z (pos M.cap) (high -ℤ low) ≡ false).
      not_held (λ s h m.
      let a = largest_bound n p (halfway M t) s h m in
      let b = shifted_is s h m in
      omega (arith, lin)) ∙ sym e)
      (cases_Bool (lt_z (pos M.cap) (high -ℤ low)))
