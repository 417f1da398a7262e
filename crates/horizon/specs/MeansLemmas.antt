-- The laws of a mean, for every rounding that is exact at multiples of W and monotone, and what the two roundings say of the exact sum
use Rattle.std.specs.Prelude.{◌≡◌, ℕ, ◌*◌, ◌<◌, ◌≤◌, ℤ, pos, ◌+ℤ◌, ◌*ℤ◌, ◌≤ℤ◌}
use Rattle.std.proofs.Common.{ap, ◌∙◌, arith}
use Rattle.table.specs.Table.{Table, successor, weight}
use Rattle.table.specs.Limits.{Lawful}
use Rattle.horizon.specs.Sums.{branch_sum_n, branch_sum_z}
use Rattle.horizon.specs.Means.{Rounding, round_down, round_up, mean, KeepsEqual, Monotone, Near}
use Rattle.horizon.specs.Ring.{lin, over, times, mono, le_trans}
use Rattle.horizon.specs.SumsLemmas.{weighted_z_cong}
use Rattle.horizon.specs.Branches.{branch_sum_z_const, branch_sum_z_mono, branch_sum_z_pos}
use Rattle.horizon.specs.Rounding.{down_below, down_most, down_next, up_above, up_least, up_next}

pub keeps_equal : (rounds : Rounding) → ((z : ℤ) (W : ℕ) → 1 ≤ W → rounds (pos W *ℤ z) W ≡ z) → KeepsEqual rounds
keeps_equal rounds exact T law s c h k f z e =
    ap (λ (sum : ℤ). rounds sum T.denominator)
    (weighted_z_cong (T.branches s c) (weight T s c) (λ b. f (successor T s c b)) (λ b. z) e ∙ branch_sum_z_const T law s c h k z)
    ∙ exact z T.denominator law.denominator.0

pub monotone : (rounds : Rounding) → ((a b : ℤ) (W : ℕ) → 1 ≤ W → a ≤ℤ b → rounds a W ≤ℤ rounds b W) → Monotone rounds
monotone rounds keeps T law s c h k f g l =
    keeps (branch_sum_z T s c f) (branch_sum_z T s c g) T.denominator law.denominator.0 (branch_sum_z_mono T s c f g l)

-- each rounded mean is less than one off
pub up_near : Near round_up
up_near T law s c h k f =
    let z = branch_sum_z T s c f in
    let W = T.denominator in
    let w = law.denominator.0 in
    let a = up_above z W w in
    let b = up_next z W w in
    (omega (arith, lin), omega (arith, lin))

pub down_near : Near round_down
down_near T law s c h k f =
    let z = branch_sum_z T s c f in
    let W = T.denominator in
    let w = law.denominator.0 in
    let a = down_below z W w in
    let b = down_next z W w in
    (omega (arith, lin), omega (arith, lin))

-- bounds on the numbers bound the mean
module _ (rounds : Rounding) (equal : KeepsEqual rounds) (larger : Monotone rounds)
    (T : Table) (law : Lawful T) (s c : ℕ) (h : s < T.states) (k : c < T.choices s) where
  pub mean_from : (f : ℕ → ℤ) (z : ℤ) → ((b : ℕ) → b < T.branches s c → z ≤ℤ f (successor T s c b)) → z ≤ℤ mean rounds T s c f
  mean_from f z l =
      let e = equal T law s c h k (λ u. z) z (λ b m. omega (arith, lin)) in
      let m = larger T law s c h k (λ u. z) f l in
      omega (arith, lin)

  pub mean_to : (f : ℕ → ℤ) (z : ℤ) → ((b : ℕ) → b < T.branches s c → f (successor T s c b) ≤ℤ z) → mean rounds T s c f ≤ℤ z
  mean_to f z l =
      let e = equal T law s c h k (λ u. z) z (λ b m. omega (arith, lin)) in
      let m = larger T law s c h k f (λ u. z) l in
      omega (arith, lin)

-- a number is over the upper mean exactly if W × it is over the exact sum; the mirror for the lower mean
module _ (T : Table) (positive : 1 ≤ T.denominator) (s c : ℕ) (f : ℕ → ℤ) (z : ℤ) where
  pub sum_under : mean round_up T s c f ≤ℤ z → branch_sum_z T s c f ≤ℤ (pos T.denominator *ℤ z)
  sum_under l =
      let W = T.denominator in
      le_trans (branch_sum_z T s c f) (pos W *ℤ mean round_up T s c f) (pos W *ℤ z) (up_above (branch_sum_z T s c f) W positive) (mono W (mean round_up T s c f) z l)

  pub upper_under : branch_sum_z T s c f ≤ℤ (pos T.denominator *ℤ z) → mean round_up T s c f ≤ℤ z
  upper_under l = up_least (branch_sum_z T s c f) z T.denominator positive l

  pub sum_over : z ≤ℤ mean round_down T s c f → (pos T.denominator *ℤ z) ≤ℤ branch_sum_z T s c f
  sum_over l =
      let W = T.denominator in
      le_trans (pos W *ℤ z) (pos W *ℤ mean round_down T s c f) (branch_sum_z T s c f) (mono W z (mean round_down T s c f) l) (down_below (branch_sum_z T s c f) W positive)

  pub lower_over : (pos T.denominator *ℤ z) ≤ℤ branch_sum_z T s c f → z ≤ℤ mean round_down T s c f
  lower_over l = down_most (branch_sum_z T s c f) z T.denominator positive l

-- a bound on F × reward + the rounded mean of naturals bounds W × F × reward + their exact sum
module _ (T : Table) (positive : 1 ≤ T.denominator) (s c F : ℕ) (t : ℕ → ℕ) (r z : ℤ) where
  pub bias_under : ((pos F *ℤ r) +ℤ mean round_up T s c (λ u. pos (t u))) ≤ℤ z
      → ((pos (T.denominator * F) *ℤ r) +ℤ pos (branch_sum_n T s c t)) ≤ℤ (pos T.denominator *ℤ z)
  bias_under l =
      let W = T.denominator in
      let m = mean round_up T s c (λ u. pos (t u)) in
      let a = up_above (branch_sum_z T s c (λ u. pos (t u))) W positive in
      let e = branch_sum_z_pos T s c t in
      let b = mono W ((pos F *ℤ r) +ℤ m) z l in
      let o = over W (pos F *ℤ r) m in
      let w = times W F r in
      omega (arith, lin)

  pub bias_over : z ≤ℤ ((pos F *ℤ r) +ℤ mean round_down T s c (λ u. pos (t u)))
      → (pos T.denominator *ℤ z) ≤ℤ ((pos (T.denominator * F) *ℤ r) +ℤ pos (branch_sum_n T s c t))
  bias_over l =
      let W = T.denominator in
      let m = mean round_down T s c (λ u. pos (t u)) in
      let a = down_below (branch_sum_z T s c (λ u. pos (t u))) W positive in
      let e = branch_sum_z_pos T s c t in
      let b = mono W z ((pos F *ℤ r) +ℤ m) l in
      let o = over W (pos F *ℤ r) m in
      let w = times W F r in
      omega (arith, lin)
