-- An upper bound on what any strategy earns, by induction on the number of steps
use Rattle.std.proofs.Common.{◌≡◌, ℕ, zero, suc, ◌*◌, ◌^◌, ◌<◌, List, ◌∷◌, ℤ, pos, ◌+ℤ◌, ◌*ℤ◌, ◌≤ℤ◌, sym, ap, ◌∙◌, mul_assoc, mul_comm, pow-suc, arith}
use native.Mathlib.Nat.{pow-zero}
use lib.IntN.{*ℤ-zero}
use Rattle.std.proofs.Math.IntN.{zero-*ℤ}
use Rattle.table.specs.Table.{Table, successor, weight}
use Rattle.table.specs.Limits.{Lawful}
use Rattle.horizon.specs.Sums.{weighted_z, branch_sum_n, branch_sum_z}
use Rattle.horizon.specs.Strategies.{Strategy, StatesOnly, Names, scaled_reward}
use Rattle.horizon.specs.Certificates.{UpperCertificate, UpperCertificateBounds}
use Rattle.horizon.specs.Ring.{lin, more, once, over, times, swap, mono}
use Rattle.horizon.specs.SumsLemmas.{weighted_z_mono, weighted_z_add, weighted_z_scale, weighted_z_pos}

-- W^(N+1) × F × r in two orders
pub stage : (F P W : ℕ) (r : ℤ) → pos F *ℤ (pos (P * W) *ℤ r) ≡ pos P *ℤ (pos (W * F) *ℤ r)
stage F P W r =
    times F (P * W) r ∙ ap (λ (k : ℕ). pos k *ℤ r) (mul_comm F (P * W) ∙ mul_assoc P W F) ∙ sym (times P (W * F) r)

-- N times the gain, and once more, W-fold
pub turns : (W N : ℕ) (g : ℤ) (d : ℤ) → (pos N *ℤ (pos W *ℤ g)) +ℤ (pos W *ℤ (g +ℤ d)) ≡ pos W *ℤ ((pos (suc N) *ℤ g) +ℤ d)
turns W N g d =
    let e1 = swap N W g in
    let e2 = over W g d in
    let e3 = over W (pos (suc N) *ℤ g) d in
    let e4 : pos W *ℤ (pos (suc N) *ℤ g) ≡ pos W *ℤ ((pos N *ℤ g) +ℤ g) = ap (λ (z : ℤ). pos W *ℤ z) (more N g) in
    let e5 = over W (pos N *ℤ g) g in
    omega (arith, lin)

-- one step: S is what the branches earn, G and D are the gain and the bias behind them, each W-fold
step_bound : (F P W N D d : ℕ) (r S G g : ℤ)
    → (pos F *ℤ S) ≤ℤ (pos P *ℤ ((pos N *ℤ G) +ℤ pos D))
    → G ≤ℤ (pos W *ℤ g)
    → ((pos (W * F) *ℤ r) +ℤ pos D) ≤ℤ (pos W *ℤ (g +ℤ pos d))
    → (pos F *ℤ ((pos (P * W) *ℤ r) +ℤ S)) ≤ℤ (pos (P * W) *ℤ ((pos (suc N) *ℤ g) +ℤ pos d))
step_bound F P W N D d r S G g earns gain bias =
    let a1 = over F (pos (P * W) *ℤ r) S in
    let a2 = stage F P W r in
    let a3 = mono N G (pos W *ℤ g) gain in
    let a4 = turns W N g (pos d) in
    let a5 : ((pos (W * F) *ℤ r) +ℤ ((pos N *ℤ G) +ℤ pos D)) ≤ℤ (pos W *ℤ ((pos (suc N) *ℤ g) +ℤ pos d)) = omega (arith, lin) in
    let a6 = mono P ((pos (W * F) *ℤ r) +ℤ ((pos N *ℤ G) +ℤ pos D)) (pos W *ℤ ((pos (suc N) *ℤ g) +ℤ pos d)) a5 in
    let a7 = over P (pos (W * F) *ℤ r) ((pos N *ℤ G) +ℤ pos D) in
    let a8 = times P W ((pos (suc N) *ℤ g) +ℤ pos d) in
    omega (arith, lin)

-- the sum over branches of P × (N × g + d)
pub behind : (P N k : ℕ) (w : ℕ → ℕ) (g : ℕ → ℤ) (d : ℕ → ℤ)
    → weighted_z k w (λ b. pos P *ℤ ((pos N *ℤ g b) +ℤ d b)) ≡ pos P *ℤ ((pos N *ℤ weighted_z k w g) +ℤ weighted_z k w d)
behind P N k w g d =
    weighted_z_scale k w (λ b. (pos N *ℤ g b) +ℤ d b) P
    ∙ ap (λ (z : ℤ). pos P *ℤ z) (weighted_z_add k w (λ b. pos N *ℤ g b) d ∙ ap (λ (z : ℤ). z +ℤ weighted_z k w d) (weighted_z_scale k w g N))

module _ (T : Table) (F : ℕ) (g : ℕ → ℤ) (d : ℕ → ℕ) (law : Lawful T) (cert : UpperCertificate T F g d) (σ : Strategy) (names : Names T σ) where
  Bound : ℕ → ℕ → List ℕ → Type 0
  Bound N s past = (pos F *ℤ scaled_reward T σ N s past) ≤ℤ (pos (T.denominator ^ N) *ℤ ((pos N *ℤ g s) +ℤ pos (d s)))

  -- the bound at each branch gives that of their sum
  behind_up : (N s c : ℕ) (past : List ℕ) → ((b : ℕ) → b < T.branches s c → Bound N (successor T s c b) past)
      → (pos F *ℤ branch_sum_z T s c (λ u. scaled_reward T σ N u past)) ≤ℤ (pos (T.denominator ^ N) *ℤ ((pos N *ℤ branch_sum_z T s c g) +ℤ pos (branch_sum_n T s c d)))
  unfolding Bound
  behind_up N s c past h =
      let k = T.branches s c in
      let w : ℕ → ℕ = weight T s c in
      let P = T.denominator ^ N in
      let next : ℕ → ℕ = successor T s c in
      let e1 = weighted_z_scale k w (λ b. scaled_reward T σ N (next b) past) F in
      let e2 = behind P N k w (λ b. g (next b)) (λ b. pos (d (next b))) in
      let e3 : pos P *ℤ ((pos N *ℤ branch_sum_z T s c g) +ℤ weighted_z k w (λ b. pos (d (next b)))) ≡ pos P *ℤ ((pos N *ℤ branch_sum_z T s c g) +ℤ pos (branch_sum_n T s c d)) =
      ap (λ (z : ℤ). pos P *ℤ ((pos N *ℤ branch_sum_z T s c g) +ℤ z)) (weighted_z_pos k w (λ b. d (next b))) in
      let e4 = weighted_z_mono k w (λ b. pos F *ℤ scaled_reward T σ N (next b) past) (λ b. pos P *ℤ ((pos N *ℤ g (next b)) +ℤ pos (d (next b)))) h in
      omega (arith, lin)

  bound : (N s : ℕ) (past : List ℕ) → StatesOnly T (s ∷ past) → Bound N s past
  unfolding Bound
  bound zero s past h =
      let z : ℤ = (pos 0 *ℤ g s) +ℤ pos (d s) in
      let e1 : pos F *ℤ pos 0 ≡ pos 0 = *ℤ-zero (pos F) in
      let e2 : pos (T.denominator ^ 0) *ℤ z ≡ pos 1 *ℤ z = ap (λ (k : ℕ). pos k *ℤ z) (pow-zero T.denominator) in
      let e3 = once z in
      let e4 = zero-*ℤ (g s) in
      omega (arith, lin)
  bound (suc N) s past h =
      let c = σ (s ∷ past) in
      let named : c < T.choices s = names s past h in
      let here : s < T.states = h.0 in
      let P = T.denominator ^ N in
      let earns = behind_up N s c (s ∷ past) (λ b l. bound N (successor T s c b) (s ∷ past) (law.successors s c b here named l, h)) in
      rw (pow-suc T.denominator N)
      (step_bound F P T.denominator N (branch_sum_n T s c d) (d s) (T.reward s c) (branch_sum_z T s c (λ u. scaled_reward T σ N u (s ∷ past))) (branch_sum_z T s c g) (g s)
      earns (cert.gain s c here named) (cert.bias s c here named))

pub bound_of_upper_certificate : UpperCertificateBounds
unfolding Bound
bound_of_upper_certificate T F g d law cert σ names N s past h = bound T F g d law cert σ names N s past h
