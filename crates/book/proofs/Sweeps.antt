-- Updates of nodes and sweeps, one after the other.
use Rattle.std.proofs.Common.{◌≡◌, ℕ, zero, suc, ◌+◌, ◌≤◌, Bool, true, false, ◌&&◌, List, length, set, ℤ, vec_items, vec_len, Vec, sym, refl, ap, ◌∙◌, arith}
use Rattle.std.specs.Vec.{with_items}
use Rattle.std.proofs.lemmas.List.{with_items_is, length-set}
use Rattle.table.specs.Table.{Table}
use Rattle.table.specs.Limits.{Lawful}
use Rattle.horizon.specs.Ring.{lin}
use Rattle.components.specs.Below.{every}
use Rattle.components.specs.Nodes.{nodes}
use Rattle.decomposition.proofs.Searches.{every_ext}
use Rattle.rules.specs.Choosing.{eq_z, at_z}
use Rattle.rules.specs.Setting.{Setting, setting_of, least_reward, largest_reward}
use Rattle.rules.specs.Book.{Book}
use Rattle.rules.specs.Sweep.{update, updates, sweep, still, sweeps}
use Rattle.rules.specs.Fit.{Within}
use Rattle.rules.proofs.Sides.{least_attained, largest_attained}
use Rattle.rules.proofs.Updates.{x_other, y_other}
use Rattle.book.specs.Bounded.{AllBounded}
use Rattle.book.specs.Sweeps.{same_at}
use Rattle.book.proofs.RunSums.{scaled}

-- numbers between F × rmin and F × rmax are small
pub within_small : (T : Table) → Lawful T → (values : List ℤ) (n : ℕ) → length values ≡ n → Within (setting_of T) n (at_z values) → AllBounded values
within_small T L values n e w k h =
    let a = least_attained T L in
    let b = largest_attained T L in
    let p = a.4 in
    let q = b.4 in
    let r = L.rewards a.0 a.1 a.2 a.3 in
    let s = L.rewards b.0 b.1 b.2 b.3 in
    let r0 = r.0 in
    let r1 = r.1 in
    let s0 = s.0 in
    let s1 = s.1 in
    let low = (scaled 1048576 (least_reward T) 1000000 (omega (arith, lin)) (omega (arith, lin))).0 in
    let high = (scaled 1048576 (largest_reward T) 1000000 (omega (arith, lin)) (omega (arith, lin))).1 in
    let u = w k (omega arith) in
    let u0 = u.0 in
    let u1 = u.1 in
    (omega (arith, lin), omega (arith, lin))

module _ (M : Setting) (A : Book) where
  pub updates_more : (k : ℕ) → update M k (updates M k A) ≡ updates M (k + 1) A
  unfolding updates
  updates_more k = let q : suc k ≡ k + 1 = omega arith in ap (λ (n : ℕ). updates M n A) q

  -- the first k updates leave the later nodes
  x_later : (k i : ℕ) → k ≤ i → at_z (updates M k A).x i ≡ at_z A.x i
  unfolding updates
  x_later zero i h = refl
  x_later (suc k) i h = x_other M k (updates M k A) i (λ e. omega arith) ∙ x_later k i (omega arith)

  y_later : (k i : ℕ) → k ≤ i → at_z (updates M k A).y i ≡ at_z A.y i
  unfolding updates
  y_later zero i h = refl
  y_later (suc k) i h = y_other M k (updates M k A) i (λ e. omega arith) ∙ y_later k i (omega arith)

  -- no x and no y of the first k nodes differs after their updates
  abbrev pub quiet : ℕ → Bool
  quiet k = every k (same_at A (updates M k A))

  pub quiet_more : (k : ℕ) → (quiet k && same_at (updates M k A) (update M k (updates M k A)) k) ≡ quiet (k + 1)
  quiet_more k =
      let B = updates M k A in
      let C = update M k B in
      let before : every k (same_at A C) ≡ quiet k =
      every_ext k (same_at A C) (same_at A B) (λ i h.
      ap (λ (z : ℤ). eq_z (at_z A.x i) z && eq_z (at_z A.y i) (at_z C.y i)) (x_other M k B i (λ e. omega arith))
      ∙ ap (λ (z : ℤ). eq_z (at_z A.x i) (at_z B.x i) && eq_z (at_z A.y i) z) (y_other M k B i (λ e. omega arith))) in
      let here : same_at B C k ≡ same_at A C k =
      ap (λ (z : ℤ). eq_z z (at_z C.x k) && eq_z (at_z B.y k) (at_z C.y k)) (x_later k k (omega arith))
      ∙ ap (λ (z : ℤ). eq_z (at_z A.x k) (at_z C.x k) && eq_z z (at_z C.y k)) (y_later k k (omega arith)) in
      let q : suc k ≡ k + 1 = omega arith in
      ap (λ (b : Bool). b && same_at B C k) (sym before)
      ∙ ap (λ (b : Bool). every k (same_at A C) && b) here
      ∙ ap (λ (D : Book). every (suc k) (same_at A D)) (updates_more k)
      ∙ ap (λ (n : ℕ). every n (same_at A (updates M (k + 1) A))) q

  pub quiet_all : (k : ℕ) → k ≡ nodes M.table → (updates M k A ≡ sweep M A) × (quiet k ≡ still M A (sweep M A))
  unfolding sweep still
  quiet_all k e = (ap (λ (n : ℕ). updates M n A) e, ap (λ (n : ℕ). quiet n) e)

-- sweeps, by what the first of them does
module _ (M : Setting) (n : ℕ) (B : Book) where
  pub sweeps_stop : still M B (sweep M B) ≡ true → ((sweeps M (suc n) B).book ≡ sweep M B) × ((sweeps M (suc n) B).made ≡ 1)
  unfolding sweeps
  sweeps_stop e = (rw (e, sweeps), rw (e, sweeps))

  pub sweeps_on : still M B (sweep M B) ≡ false
      → ((sweeps M (suc n) B).book ≡ (sweeps M n (sweep M B)).book) × ((sweeps M (suc n) B).made ≡ suc (sweeps M n (sweep M B)).made)
  unfolding sweeps
  sweeps_on e = (rw (e, sweeps), rw (e, sweeps))

-- a Vec that a function on slices has written at one place
pub written : {X Z : Type 0} (w : Vec X Z) (ws : List X) (i : ℕ) (a : X) → vec_len w ≡ length (vec_items w) → ws ≡ set (vec_items w) i a
    → vec_items (with_items w ws) ≡ set (vec_items w) i a
written {X} w ws i a n e = with_items_is w ws (ap (λ (l : List X). length l) e ∙ length-set (vec_items w) i a ∙ sym n) ∙ e

pub updates_none : (M : Setting) (A : Book) → A ≡ updates M 0 A
unfolding updates
updates_none M A = refl

pub sweeps_none : (M : Setting) (B : Book) → ((sweeps M 0 B).book ≡ B) × ((sweeps M 0 B).made ≡ 0)
unfolding sweeps
sweeps_none M B = (refl, refl)
