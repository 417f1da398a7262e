-- The upper theorem: x is the gain of a certificate, and t + B × the potential of the node's depth is its bias
use Rattle.std.proofs.Common.{◌≡◌, ℕ, ◌+◌, ◌*◌, ◌^◌, ◌<◌, ◌≤◌, List, ◌∷◌, ℤ, pos, ◌+ℤ◌, ◌-ℤ◌, ◌*ℤ◌, nat_abs, ◌≤ℤ◌, refl, ap, ◌∙◌, inl, inr, mul-le-mul_left, mul-add, mul_left_comm, arith}
use Rattle.table.specs.Table.{Table, successor, weight}
use Rattle.table.specs.Limits.{Lawful}
use Rattle.horizon.specs.Sums.{branch_sum_n, branch_sum_z}
use Rattle.horizon.specs.Strategies.{Strategy, StatesOnly, Names, scaled_reward}
use Rattle.horizon.specs.Certificates.{UpperCertificate}
use Rattle.horizon.specs.Potential.{potential, RewardsBetween, step_cost, constant}
use Rattle.horizon.specs.Upper.{InsideChoice, LeavingChoice, UpperHypotheses, UpperTheorem}
use Rattle.horizon.specs.Ring.{lin, over, times, mono, apart}
use Rattle.horizon.specs.SumsLemmas.{weighted_n_mono, weighted_n_cong, weighted_z_cong}
use Rattle.horizon.proofs.UpperCertificates.{bound_of_upper_certificate}
use Rattle.horizon.specs.Branches.{branch_sum_n_const, branch_sum_z_const, branch_sum_n_mix}
use Rattle.horizon.proofs.Potentials.{below_top, falls, covers}

inside_bias : (W F B Mt Me t e : ℕ) (r x : ℤ) → Me ≡ W * e
    → ((pos (W * F) *ℤ r) +ℤ pos Mt) ≤ℤ (pos W *ℤ (x +ℤ pos t))
    → ((pos (W * F) *ℤ r) +ℤ pos (Mt + B * Me)) ≤ℤ (pos W *ℤ (x +ℤ pos (t + B * e)))
inside_bias W F B Mt Me t e r x q h =
    let a1 = over W x (pos t) in
    let a2 = over W x (pos (t + B * e)) in
    let a3 = mul-add W t (B * e) in
    let a4 = mul_left_comm W B e in
    let a5 : B * Me ≡ B * (W * e) = ap (λ (n : ℕ). B * n) q in
    omega (arith, lin)

-- a reward is at most x + F × R, F-fold
over_least : (W F R : ℕ) (r x low high : ℤ) → r ≤ℤ high → high ≤ℤ (low +ℤ pos R) → (pos F *ℤ low) ≤ℤ x
    → (pos (W * F) *ℤ r) ≤ℤ ((pos W *ℤ x) +ℤ pos (W * (F * R)))
over_least W F R r x low high below gap least =
    let a1 : r ≤ℤ (low +ℤ pos R) = omega (arith, lin) in
    let a2 = mono F r (low +ℤ pos R) a1 in
    let a3 = over F low (pos R) in
    let a4 : (pos F *ℤ r) ≤ℤ (x +ℤ pos (F * R)) = omega (arith, lin) in
    let a5 = mono W (pos F *ℤ r) (x +ℤ pos (F * R)) a4 in
    let a6 = over W x (pos (F * R)) in
    let a7 = times W F r in
    omega (arith, lin)

leaving_bias : (W F S M B Me t e : ℕ) (r x : ℤ) → (pos (W * F) *ℤ r) ≤ℤ ((pos W *ℤ x) +ℤ pos (W * S)) → W * S + (M + B * Me) ≤ W * (B * e)
    → ((pos (W * F) *ℤ r) +ℤ pos (M + B * Me)) ≤ℤ (pos W *ℤ (x +ℤ pos (t + B * e)))
leaving_bias W F S M B Me t e r x most paid =
    let c1 = over W x (pos (t + B * e)) in
    let c2 = mul-add W t (B * e) in
    omega (arith, lin)

module _ (T : Table) (F D H : ℕ) (low high : ℤ) (node depth : ℕ → ℕ) (x : ℕ → ℤ) (t : ℕ → ℕ)
    (law : Lawful T) (rewards : RewardsBetween T low high) (hypotheses : UpperHypotheses T F D H low node depth x t) where
  level : ℕ → ℕ
  level s = potential T.denominator D (depth (node s))

  bias : ℕ → ℕ
  bias s = t s + step_cost F H low high * level s

  gain_inside : (s c : ℕ) → s < T.states → c < T.choices s → InsideChoice T F node x t s c → branch_sum_z T s c (λ u. x (node u)) ≤ℤ (pos T.denominator *ℤ x (node s))
  gain_inside s c h k i =
      let a1 = weighted_z_cong (T.branches s c) (weight T s c) (λ b. x (node (successor T s c b))) (λ b. x (node s)) (λ b l. ap x (i.stays b l)) in
      let a2 = branch_sum_z_const T law s c h k (x (node s)) in
      omega (arith, lin)

  Biased : ℕ → ℕ → Type 0
  Biased s c = ((pos (T.denominator * F) *ℤ T.reward s c) +ℤ pos (branch_sum_n T s c bias)) ≤ℤ (pos T.denominator *ℤ (x (node s) +ℤ pos (bias s)))

  bias_inside : (s c : ℕ) → s < T.states → c < T.choices s → InsideChoice T F node x t s c → Biased s c
  unfolding Biased bias level
  bias_inside s c h k i =
      let W = T.denominator in
      let B = step_cost F H low high in
      let a1 : branch_sum_n T s c level ≡ W * level s =
      weighted_n_cong (T.branches s c) (weight T s c) (λ b. level (successor T s c b)) (λ b. level s) (λ b l. ap (λ (n : ℕ). potential W D (depth n)) (i.stays b l))
      ∙ branch_sum_n_const T law s c h k (level s) in
      rw (branch_sum_n_mix T s c B t level)
      (inside_bias W F B (branch_sum_n T s c t) (branch_sum_n T s c level) (t s) (level s) (T.reward s c) (x (node s)) a1 i.bias)

  bias_leaving : (s c : ℕ) → s < T.states → c < T.choices s → LeavingChoice T node depth x s c → Biased s c
  unfolding Biased bias level
  bias_leaving s c h k l =
      let W = T.denominator in
      let R = nat_abs (high -ℤ low) in
      let B = step_cost F H low high in
      let a1 = falls T law D (λ u. depth (node u)) hypotheses.depths s c h k l.descends in
      let a2 = weighted_n_mono (T.branches s c) (weight T s c) (λ b. t (successor T s c b)) (λ b. H) (λ b m. hypotheses.vectors (successor T s c b) (law.successors s c b h k m)) in
      let a3 = branch_sum_n_const T law s c h k H in
      let a4 : branch_sum_n T s c t ≤ W * H = omega arith in
      let a5 = over_least W F R (T.reward s c) (x (node s)) low high (rewards s c h k).1 (apart low high) (hypotheses.values s h) in
      let a6 = covers W (F * R) H (branch_sum_n T s c t) B (branch_sum_n T s c level) (level s) a1 a4 refl in
      rw (branch_sum_n_mix T s c B t level)
      (leaving_bias W F (F * R) (branch_sum_n T s c t) B (branch_sum_n T s c level) (t s) (level s) (T.reward s c) (x (node s)) a5 a6)

  certificate : UpperCertificate T F (λ s. x (node s)) bias
  unfolding Biased
  certificate = record {
    gain = λ s c h k. elim (hypotheses.choices s c h k) [ inl i ↦ gain_inside s c h k i | inr l ↦ l.gain ];
    bias = λ s c h k. elim (hypotheses.choices s c h k) [ inl i ↦ bias_inside s c h k i | inr l ↦ bias_leaving s c h k l ];
  }

  bias_most : (s : ℕ) → s < T.states → bias s ≤ constant T.denominator F D H low high
  unfolding bias level
  bias_most s h =
      let a1 = hypotheses.vectors s h in
      let a2 = mul-le-mul_left (step_cost F H low high) (below_top T.denominator D (depth (node s))) in
      omega arith

  bound : (σ : Strategy) → Names T σ → (N s : ℕ) (past : List ℕ) → StatesOnly T (s ∷ past)
      → (pos F *ℤ scaled_reward T σ N s past) ≤ℤ (pos (T.denominator ^ N) *ℤ ((pos N *ℤ x (node s)) +ℤ pos (constant T.denominator F D H low high)))
  bound σ names N s past h =
      let a1 = bound_of_upper_certificate T F (λ u. x (node u)) bias law certificate σ names N s past h in
      let a2 = bias_most s h.0 in
      let C = constant T.denominator F D H low high in
      let g : ℤ = pos N *ℤ x (node s) in
      let a3 : (g +ℤ pos (bias s)) ≤ℤ (g +ℤ pos C) = omega (arith, lin) in
      let a4 = mono (T.denominator ^ N) (g +ℤ pos (bias s)) (g +ℤ pos C) a3 in
      omega (arith, lin)

pub bound_of_upper_values : UpperTheorem
bound_of_upper_values T F D H low high node depth x t law rewards hypotheses σ names N s past h =
    bound T F D H low high node depth x t law rewards hypotheses σ names N s past h
