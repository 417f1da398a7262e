-- The weighted sum over the branches of a choice: constants, bounds, naturals, and t + B × e
use Rattle.std.specs.Prelude.{◌≡◌, ℕ, ◌+◌, ◌*◌, ◌<◌, ℤ, pos, ◌*ℤ◌, ◌≤ℤ◌}
use Rattle.std.proofs.Common.{ap, ◌∙◌, arith}
use Rattle.table.specs.Table.{Table, successor, weight}
use Rattle.table.specs.Limits.{Lawful}
use Rattle.horizon.specs.Sums.{branch_sum_n, branch_sum_z}
use Rattle.horizon.specs.Ring.{lin}
use Rattle.horizon.specs.SumsLemmas.{weighted_n_add, weighted_n_scale, weighted_n_const, weighted_z_mono, weighted_z_const, weighted_z_pos}

-- a constant's weighted sum
pub branch_sum_n_const : (T : Table) → Lawful T → (s c : ℕ) → s < T.states → c < T.choices s → (n : ℕ) → branch_sum_n T s c (λ u. n) ≡ T.denominator * n
branch_sum_n_const T law s c h k n = weighted_n_const (T.branches s c) (weight T s c) n ∙ ap (λ (m : ℕ). m * n) (law.complete s c h k)

pub branch_sum_z_const : (T : Table) → Lawful T → (s c : ℕ) → s < T.states → c < T.choices s → (z : ℤ) → branch_sum_z T s c (λ u. z) ≡ pos T.denominator *ℤ z
branch_sum_z_const T law s c h k z = weighted_z_const (T.branches s c) (weight T s c) z ∙ ap (λ (m : ℕ). pos m *ℤ z) (law.complete s c h k)

-- over naturals it is the natural sum
pub branch_sum_z_pos : (T : Table) (s c : ℕ) (f : ℕ → ℕ) → branch_sum_z T s c (λ u. pos (f u)) ≡ pos (branch_sum_n T s c f)
branch_sum_z_pos T s c f = weighted_z_pos (T.branches s c) (weight T s c) (λ b. f (successor T s c b))

-- larger numbers at the successors give no smaller sum
pub branch_sum_z_mono : (T : Table) (s c : ℕ) (f g : ℕ → ℤ)
    → ((b : ℕ) → b < T.branches s c → f (successor T s c b) ≤ℤ g (successor T s c b)) → branch_sum_z T s c f ≤ℤ branch_sum_z T s c g
branch_sum_z_mono T s c f g l =
    weighted_z_mono (T.branches s c) (weight T s c) (λ b. f (successor T s c b)) (λ b. g (successor T s c b)) l

-- numbers from z on give W × z at least, numbers up to z give W × z at most
module _ (T : Table) (law : Lawful T) (s c : ℕ) (h : s < T.states) (k : c < T.choices s) where
  pub branch_sum_z_from : (f : ℕ → ℤ) (z : ℤ) → ((b : ℕ) → b < T.branches s c → z ≤ℤ f (successor T s c b)) → (pos T.denominator *ℤ z) ≤ℤ branch_sum_z T s c f
  branch_sum_z_from f z l =
      let e = branch_sum_z_const T law s c h k z in
      let m = branch_sum_z_mono T s c (λ u. z) f l in
      omega (arith, lin)

  pub branch_sum_z_to : (f : ℕ → ℤ) (z : ℤ) → ((b : ℕ) → b < T.branches s c → f (successor T s c b) ≤ℤ z) → branch_sum_z T s c f ≤ℤ (pos T.denominator *ℤ z)
  branch_sum_z_to f z l =
      let e = branch_sum_z_const T law s c h k z in
      let m = branch_sum_z_mono T s c f (λ u. z) l in
      omega (arith, lin)

-- of t + B × e
pub branch_sum_n_mix : (T : Table) (s c B : ℕ) (t e : ℕ → ℕ) → branch_sum_n T s c (λ u. t u + B * e u) ≡ branch_sum_n T s c t + B * branch_sum_n T s c e
branch_sum_n_mix T s c B t e =
    let k = T.branches s c in
    let w : ℕ → ℕ = weight T s c in
    let next : ℕ → ℕ = successor T s c in
    weighted_n_add k w (λ b. t (next b)) (λ b. B * e (next b)) ∙ ap (λ (n : ℕ). branch_sum_n T s c t + n) (weighted_n_scale k w (λ b. e (next b)) B)
