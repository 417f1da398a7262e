-- What one step within a component finds.
use Rattle.std.proofs.Common.{◌≡◌, ℕ, ◌<◌, ◌≤◌, Bool, true, false, not, ◌&&◌, ◌||◌, leb, pos, ◌+ℤ◌, ◌≤ℤ◌, sym, ⊎_elim, arith}
use borrow.Author.Differences.{abs_is}
use Rattle.std.proofs.lemmas.Bool.{and_parts, and_from, or_cases, not-true, not-false, both_ways, leb-true}
use Rattle.table.specs.Table.{successor}
use Rattle.table.specs.Limits.{Lawful}
use Rattle.horizon.specs.Means.{Rounding, round_down, round_up}
use Rattle.horizon.specs.Ring.{lin}
use Rattle.horizon.specs.MeansLemmas.{mean_from, mean_to}
use Rattle.components.specs.Below.{every}
use Rattle.components.specs.Inside.{inside}
use Rattle.components.specs.Nodes.{in_component, components, states_of}
use Rattle.components.proofs.Below.{first_le, first_at, every_at}
use Rattle.components.proofs.Reversible.{inside_exists}
use Rattle.rules.specs.Setting.{Setting, bottom, top}
use Rattle.rules.specs.Choosing.{eq_z}
use Rattle.rules.specs.Refine.{worth, best, gain, largest_up, least_down, attains, halfway, shifted, held}
use Rattle.rules.proofs.Order.{eq_z_true, eq_z_from}
use Rattle.rules.proofs.Choosing.{largest_bound, largest_reached, smallest_bound, smallest_reached}
use Rattle.rules.proofs.Nodes.{inside_choice, of_component, some_state, stays_in}
use Rattle.rules.proofs.Sides.{Side, lower_side, upper_side, over_bottom, under_top}

-- Both sides: the best worth of a state bounds that of each inside choice, and one has it
module _ (M : Setting) (L : Lawful M.table) (rounds : Rounding) (t : ℕ → ℕ) (s : ℕ) where
  pub best_bound : (c : ℕ) → inside M.table s c ≡ true → worth M rounds t s c ≤ℤ best M rounds t s
  unfolding best
  best_bound c i =
      largest_bound (M.table.choices s) (inside M.table s) (worth M rounds t s) c (inside_exists M.table s c i).choice i

  pub best_reached : in_component M.table s ≡ true
      → (c : ℕ) × (c < M.table.choices s) × (inside M.table s c ≡ true) × (best M rounds t s ≡ worth M rounds t s c)
  unfolding best
  best_reached e =
      let x = inside_choice M.table L s e in
      largest_reached (M.table.choices s) (inside M.table s) (worth M rounds t s) x.0 x.1 x.2

-- Both sides: where t is 0 the gain is at least F × rmin, and where t is largest it is at most F × rmax
module _ (M : Setting) (L : Lawful M.table) (rounds : Rounding) (side : Side rounds) (t : ℕ → ℕ) (s : ℕ)
    (h : s < M.table.states) (e : in_component M.table s ≡ true) where
  pub gain_bottom : t s ≡ 0 → bottom M ≤ℤ gain M rounds t s
  gain_bottom z =
      let x = inside_choice M.table L s e in
      let c = x.0 in
      let a = best_bound M L rounds t s c x.2 in
      let b = mean_from rounds side.equal side.larger M.table L s c h x.1 (λ u. pos (t u)) (pos 0) (λ b l. omega (arith, lin)) in
      let r = over_bottom M s c h x.1 in
      omega (arith, lin)

  pub gain_top : (k : ℕ) → states_of M.table k s ≡ true
      → ((u : ℕ) → u < M.table.states → states_of M.table k u ≡ true → t u ≤ t s) → gain M rounds t s ≤ℤ top M
  gain_top k m most =
      let x = best_reached M L rounds t s e in
      let c = x.0 in
      let q = x.3 in
      let b = mean_to rounds side.equal side.larger M.table L s c h x.1 (λ u. pos (t u)) (pos (t s))
      (λ b l.
      let w = most (successor M.table s c b) (L.successors s c b h x.1 l) (stays_in M.table L k s c b x.2 l m) in
      omega (arith, lin)) in
      let r = under_top M s c h x.1 in
      omega (arith, lin)

module _ (M : Setting) (L : Lawful M.table) (t : ℕ → ℕ) (k : ℕ) where
  -- no inside choice of a state of the component gains more than the largest up
  pub under_largest : (s c : ℕ) → inside M.table s c ≡ true → states_of M.table k s ≡ true
      → worth M round_up t s c ≤ℤ (largest_up M t k +ℤ pos (t s))
  unfolding largest_up
  under_largest s c i m =
      let a = best_bound M L round_up t s c i in
      let b = largest_bound M.table.states (states_of M.table k) (gain M round_up t) s (inside_exists M.table s c i).state m in
      omega (arith, lin)

  -- the first choice that attains down: it is inside and has the best worth
  attaining : (s : ℕ) → in_component M.table s ≡ true
      → (attains M t s < M.table.choices s) × (inside M.table s (attains M t s) ≡ true)
      × (worth M round_down t s (attains M t s) ≡ best M round_down t s)
  unfolding attains
  attaining s e =
      let p : ℕ → Bool = λ c. inside M.table s c && eq_z (worth M round_down t s c) (best M round_down t s) in
      let y = best_reached M L round_down t s e in
      let q : p y.0 ≡ true = and_from (inside M.table s y.0) (eq_z (worth M round_down t s y.0) (best M round_down t s)) y.2
      (eq_z_from (worth M round_down t s y.0) (best M round_down t s) (sym y.3)) in
      let a = first_le (M.table.choices s) p y.0 q in
      let b = first_at (M.table.choices s) p y.0 y.1 q in
      let w = and_parts (inside M.table s (attains M t s)) (eq_z (worth M round_down t s (attains M t s)) (best M round_down t s)) b in
      let l = y.1 in
      (omega arith, w.0, eq_z_true (worth M round_down t s (attains M t s)) (best M round_down t s) w.1)

  pub attains_names : (s : ℕ) → in_component M.table s ≡ true → attains M t s < M.table.choices s
  attains_names s e = (attaining s e).0

  pub attains_inside : (s : ℕ) → in_component M.table s ≡ true → inside M.table s (attains M t s) ≡ true
  attains_inside s e = (attaining s e).1

  pub attains_best : (s : ℕ) → in_component M.table s ≡ true → worth M round_down t s (attains M t s) ≡ best M round_down t s
  attains_best s e = (attaining s e).2

  pub over_least : (s : ℕ) → s < M.table.states → states_of M.table k s ≡ true
      → (least_down M t k +ℤ pos (t s)) ≤ℤ worth M round_down t s (attains M t s)
  unfolding least_down
  over_least s h m =
      let a = attains_best s (of_component M.table L k s m).0 in
      let b = smallest_bound M.table.states (states_of M.table k) (gain M round_down t) s h m in
      omega (arith, lin)

  -- the largest up is at least F × rmin, and the least down at most F × rmax
  pub largest_bottom : (s : ℕ) → s < M.table.states → states_of M.table k s ≡ true → t s ≡ 0 → bottom M ≤ℤ largest_up M t k
  unfolding largest_up
  largest_bottom s h m z =
      let a = gain_bottom M L round_up upper_side t s h (of_component M.table L k s m).0 z in
      let b = largest_bound M.table.states (states_of M.table k) (gain M round_up t) s h m in
      omega (arith, lin)

  pub least_top : k < components M.table → least_down M t k ≤ℤ top M
  unfolding least_down
  least_top l =
      let n = M.table.states in
      let o = some_state M.table L k l in
      let x = largest_reached n (states_of M.table k) (λ v. pos (t v)) o.0 o.1 o.2 in
      let s = x.0 in
      let q = x.3 in
      let a = gain_top M L round_down lower_side t s x.1 (of_component M.table L k s x.2).0 k x.2
      (λ u hu m. let w = largest_bound n (states_of M.table k) (λ v. pos (t v)) u hu m in omega (arith, lin)) in
      let b = smallest_bound n (states_of M.table k) (gain M round_down t) s x.1 x.2 in
      omega (arith, lin)

  -- a step that is not held keeps the numbers of the vector small
  pub shifted_capped : (s : ℕ) → s < M.table.states → states_of M.table k s ≡ true → held M t k ≡ false → shifted M t k s ≤ M.cap
  unfolding held
  shifted_capped s h m f =
      let n = M.table.states in
      let p : ℕ → Bool = λ v. not (states_of M.table k v) || leb (shifted M t k v) M.cap in
      let a = every_at n p (not-false (every n p) f) s h in
      ⊎_elim
      (λ (q : not (states_of M.table k s) ≡ true). absurd (both_ways (states_of M.table k s) (not-true (states_of M.table k s) q) m))
      (leb-true (shifted M t k s) M.cap)
      (or_cases (not (states_of M.table k s)) (leb (shifted M t k s) M.cap) a)

  -- and one of them is 0
  pub shifted_rooted : k < components M.table
      → (s : ℕ) × (s < M.table.states) × (states_of M.table k s ≡ true) × (shifted M t k s ≡ 0)
  unfolding shifted
  shifted_rooted l =
      let o = some_state M.table L k l in
      let x = smallest_reached M.table.states (states_of M.table k) (halfway M t) o.0 o.1 o.2 in
      let q = x.3 in
      (x.0, x.1, x.2, omega (arith, lin, abs_is))
