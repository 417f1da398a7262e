-- A lower bound on what a plan earns, by induction on the number of steps
use Rattle.std.proofs.Common.{◌≡◌, ℕ, zero, suc, ◌*◌, ◌^◌, ◌<◌, List, ◌∷◌, ℤ, pos, ◌+ℤ◌, ◌-ℤ◌, ◌*ℤ◌, neg_ℤ, ◌≤ℤ◌, ap, ◌∙◌, mul_assoc, pow-suc, arith}
use native.Mathlib.Nat.{pow-zero}
use lib.IntN.{*ℤ-zero}
use Rattle.std.proofs.Math.IntN.{zero-*ℤ}
use Rattle.table.specs.Table.{Table, successor, weight}
use Rattle.table.specs.Limits.{Lawful}
use Rattle.horizon.specs.Sums.{weighted_z, branch_sum_n, branch_sum_z}
use Rattle.horizon.specs.Strategies.{Plan, PlanNames, follow, scaled_reward}
use Rattle.horizon.specs.Certificates.{LowerCertificate, LowerCertificateBounds}
use Rattle.horizon.specs.Ring.{lin, more, once, over, over_neg, times, swap, mono}
use Rattle.horizon.specs.SumsLemmas.{weighted_z_mono, weighted_z_add, weighted_z_scale, weighted_z_pos, weighted_n_scale}
use Rattle.horizon.proofs.UpperCertificates.{stage}

step_bound : (F P W N D d : ℕ) (r S G g : ℤ)
    → (pos P *ℤ (pos N *ℤ G)) ≤ℤ ((pos F *ℤ S) +ℤ pos (P * D))
    → (pos W *ℤ g) ≤ℤ G
    → ((pos W *ℤ g) +ℤ pos D) ≤ℤ ((pos (W * F) *ℤ r) +ℤ pos (W * d))
    → (pos (P * W) *ℤ (pos (suc N) *ℤ g)) ≤ℤ ((pos F *ℤ ((pos (P * W) *ℤ r) +ℤ S)) +ℤ pos (P * W * d))
step_bound F P W N D d r S G g earns gain bias =
    let a1 = over F (pos (P * W) *ℤ r) S in
    let a2 = stage F P W r in
    let a3 = mono P (pos N *ℤ (pos W *ℤ g)) (pos N *ℤ G) (mono N (pos W *ℤ g) G gain) in
    let a4 = mono P ((pos W *ℤ g) +ℤ pos D) ((pos (W * F) *ℤ r) +ℤ pos (W * d)) bias in
    let a5 = over P (pos W *ℤ g) (pos D) in
    let a6 = over P (pos (W * F) *ℤ r) (pos (W * d)) in
    let a7 = mul_assoc P W d in
    let a8 = times P W (pos (suc N) *ℤ g) in
    let a9 : pos P *ℤ (pos W *ℤ (pos (suc N) *ℤ g)) ≡ pos P *ℤ ((pos N *ℤ (pos W *ℤ g)) +ℤ (pos W *ℤ g)) =
    ap (λ (z : ℤ). pos P *ℤ z) (swap W (suc N) g ∙ more N (pos W *ℤ g)) in
    let a10 = over P (pos N *ℤ (pos W *ℤ g)) (pos W *ℤ g) in
    omega (arith, lin)

module _ (T : Table) (F : ℕ) (p : Plan) (g : ℕ → ℤ) (d : ℕ → ℕ) (law : Lawful T) (plans : PlanNames T p) (cert : LowerCertificate T F p g d) where
  -- the bound with no subtraction
  Bound : ℕ → ℕ → List ℕ → Type 0
  Bound N s past = (pos (T.denominator ^ N) *ℤ (pos N *ℤ g s)) ≤ℤ ((pos F *ℤ scaled_reward T (follow p) N s past) +ℤ pos (T.denominator ^ N * d s))

  behind_down : (N s c : ℕ) (past : List ℕ) → ((b : ℕ) → b < T.branches s c → Bound N (successor T s c b) past)
      → (pos (T.denominator ^ N) *ℤ (pos N *ℤ branch_sum_z T s c g)) ≤ℤ ((pos F *ℤ branch_sum_z T s c (λ u. scaled_reward T (follow p) N u past)) +ℤ pos (T.denominator ^ N * branch_sum_n T s c d))
  unfolding Bound
  behind_down N s c past h =
      let k = T.branches s c in
      let w : ℕ → ℕ = weight T s c in
      let P = T.denominator ^ N in
      let next : ℕ → ℕ = successor T s c in
      let earns : ℕ → ℤ = λ b. scaled_reward T (follow p) N (next b) past in
      let e1 = weighted_z_scale k w (λ b. pos N *ℤ g (next b)) P in
      let e2 : pos P *ℤ weighted_z k w (λ b. pos N *ℤ g (next b)) ≡ pos P *ℤ (pos N *ℤ branch_sum_z T s c g) =
      ap (λ (z : ℤ). pos P *ℤ z) (weighted_z_scale k w (λ b. g (next b)) N) in
      let e3 = weighted_z_add k w (λ b. pos F *ℤ earns b) (λ b. pos (P * d (next b))) in
      let e4 = weighted_z_scale k w earns F in
      let e5 = weighted_z_pos k w (λ b. P * d (next b)) in
      let e6 = weighted_n_scale k w (λ b. d (next b)) P in
      let e7 = weighted_z_mono k w (λ b. pos P *ℤ (pos N *ℤ g (next b))) (λ b. (pos F *ℤ earns b) +ℤ pos (P * d (next b))) h in
      omega (arith, lin)

  bound : (N s : ℕ) (past : List ℕ) → s < T.states → Bound N s past
  unfolding Bound
  bound zero s past h =
      let z : ℤ = pos 0 *ℤ g s in
      let e1 : pos F *ℤ pos 0 ≡ pos 0 = *ℤ-zero (pos F) in
      let e2 : pos (T.denominator ^ 0) *ℤ z ≡ pos 1 *ℤ z = ap (λ (k : ℕ). pos k *ℤ z) (pow-zero T.denominator) in
      let e3 = once z in
      let e4 = zero-*ℤ (g s) in
      omega (arith, lin)
  bound (suc N) s past h =
      let c = p s in
      let P = T.denominator ^ N in
      let earns = behind_down N s c (s ∷ past) (λ b l. bound N (successor T s c b) (s ∷ past) (law.successors s c b h (plans s h) l)) in
      rw (pow-suc T.denominator N)
      (step_bound F P T.denominator N (branch_sum_n T s c d) (d s) (T.reward s c) (branch_sum_z T s c (λ u. scaled_reward T (follow p) N u (s ∷ past))) (branch_sum_z T s c g) (g s)
      earns (cert.gain s h) (cert.bias s h))

less : (P d : ℕ) (a z : ℤ) → (pos P *ℤ a) ≤ℤ (z +ℤ pos (P * d)) → (pos P *ℤ (a -ℤ pos d)) ≤ℤ z
less P d a z h = let e1 = over P a (neg_ℤ (pos d)) in let e2 = over_neg P (pos d) in omega (arith, lin)

pub bound_of_lower_certificate : LowerCertificateBounds
unfolding Bound
bound_of_lower_certificate T F p g d law plans cert N s past h =
    less (T.denominator ^ N) (d s) (pos N *ℤ g s) (pos F *ℤ scaled_reward T (follow p) N s past) (bound T F p g d law plans cert N s past h)
