-- The lower theorem: y is the gain of a certificate, and (H - t) + B × the potential of the depth is its bias
use Rattle.std.proofs.Common.{◌≡◌, ℕ, ◌+◌, ◌-◌, ◌*◌, ◌^◌, ◌<◌, ◌≤◌, List, ℤ, pos, ◌+ℤ◌, ◌-ℤ◌, ◌*ℤ◌, nat_abs, ◌≤ℤ◌, sym, refl, ap, ◌∙◌, inl, inr, mul-le-mul_left, mul-zero, mul-add, arith}
use Rattle.table.specs.Table.{Table, successor, weight}
use Rattle.table.specs.Limits.{Lawful}
use Rattle.horizon.specs.Sums.{branch_sum_n, branch_sum_z}
use Rattle.horizon.specs.Strategies.{Plan, PlanNames, follow, scaled_reward}
use Rattle.horizon.specs.Certificates.{LowerCertificate}
use Rattle.horizon.specs.Potential.{potential, RewardsBetween, step_cost, constant}
use Rattle.horizon.specs.Lower.{StayingState, MovingState, LowerHypotheses, LowerTheorem}
use Rattle.horizon.specs.Ring.{lin, over, times, mono, apart}
use Rattle.horizon.specs.SumsLemmas.{weighted_n_mono, weighted_n_add, weighted_n_cong, weighted_z_cong}
use Rattle.horizon.proofs.LowerCertificates.{bound_of_lower_certificate}
use Rattle.horizon.proofs.Potentials.{bottom, below_top, falls, covers}
use Rattle.horizon.specs.Branches.{branch_sum_n_const, branch_sum_z_const, branch_sum_n_mix}

-- y is at most a reward + R, F-fold
under_most : (W F R : ℕ) (r y low high : ℤ) → low ≤ℤ r → high ≤ℤ (low +ℤ pos R) → y ≤ℤ (pos F *ℤ high)
    → (pos W *ℤ y) ≤ℤ ((pos (W * F) *ℤ r) +ℤ pos (W * (F * R)))
under_most W F R r y low high above gap most =
    let a1 : high ≤ℤ (r +ℤ pos R) = omega (arith, lin) in
    let a2 = mono F high (r +ℤ pos R) a1 in
    let a3 = over F r (pos R) in
    let a4 : y ≤ℤ ((pos F *ℤ r) +ℤ pos (F * R)) = omega (arith, lin) in
    let a5 = mono W y ((pos F *ℤ r) +ℤ pos (F * R)) a4 in
    let a6 = over W (pos F *ℤ r) (pos (F * R)) in
    let a7 = times W F r in
    omega (arith, lin)

staying_bias : (W F H Mt Ml t l : ℕ) (r y : ℤ) → Ml + Mt ≡ W * H → l + t ≡ H
    → (pos W *ℤ (y +ℤ pos t)) ≤ℤ ((pos (W * F) *ℤ r) +ℤ pos Mt)
    → ((pos W *ℤ y) +ℤ pos Ml) ≤ℤ ((pos (W * F) *ℤ r) +ℤ pos (W * l))
staying_bias W F H Mt Ml t l r y parts part h =
    let a1 = over W y (pos t) in
    let a2 = mul-add W l t in
    let a3 : W * (l + t) ≡ W * H = ap (λ (n : ℕ). W * n) part in
    omega (arith, lin)

moving_bias : (W F S M B Me l e : ℕ) (r y : ℤ) → (pos W *ℤ y) ≤ℤ ((pos (W * F) *ℤ r) +ℤ pos (W * S)) → W * S + (M + B * Me) ≤ W * (B * e)
    → ((pos W *ℤ y) +ℤ pos (M + B * Me)) ≤ℤ ((pos (W * F) *ℤ r) +ℤ pos (W * (l + B * e)))
moving_bias W F S M B Me l e r y most paid = let c = mul-add W l (B * e) in omega (arith, lin)

module _ (T : Table) (F D H : ℕ) (low high : ℤ) (p : Plan) (depth : ℕ → ℕ) (y : ℕ → ℤ) (t : ℕ → ℕ)
    (law : Lawful T) (rewards : RewardsBetween T low high) (plans : PlanNames T p) (hypotheses : LowerHypotheses T F D H high p depth y t) where
  level : ℕ → ℕ
  level s = potential T.denominator D (depth s)

  lacks : ℕ → ℕ
  lacks s = H - t s

  bias : ℕ → ℕ
  bias s = lacks s + step_cost F H low high * level s

  gain_staying : (s : ℕ) → s < T.states → StayingState T F p depth y t s → (pos T.denominator *ℤ y s) ≤ℤ branch_sum_z T s (p s) y
  gain_staying s h i =
      let a1 = weighted_z_cong (T.branches s (p s)) (weight T s (p s)) (λ b. y (successor T s (p s) b)) (λ b. y s) i.keeps in
      let a2 = branch_sum_z_const T law s (p s) h (plans s h) (y s) in
      omega (arith, lin)

  -- at depth 0
  bias_least : (s : ℕ) → s < T.states → depth s ≡ 0 → bias s + t s ≡ H
  unfolding bias lacks level
  bias_least s h e =
      let B = step_cost F H low high in
      let a2 : B * potential T.denominator D (depth s) ≡ B * potential T.denominator D 0 = ap (λ (k : ℕ). B * potential T.denominator D k) e in
      let a3 : B * potential T.denominator D 0 ≡ B * 0 = ap (λ (n : ℕ). B * n) (bottom T.denominator D) in
      let a4 = mul-zero B in
      let a5 = hypotheses.vectors s h e in
      omega arith

  Biased : ℕ → Type 0
  Biased s = ((pos T.denominator *ℤ y s) +ℤ pos (branch_sum_n T s (p s) bias)) ≤ℤ ((pos (T.denominator * F) *ℤ T.reward s (p s)) +ℤ pos (T.denominator * bias s))

  bias_staying : (s : ℕ) → s < T.states → StayingState T F p depth y t s → Biased s
  unfolding Biased
  bias_staying s h i =
      let c = p s in
      let next : ℕ → ℕ = successor T s c in
      let W = T.denominator in
      let a1 = weighted_n_add (T.branches s c) (weight T s c) (λ b. bias (next b)) (λ b. t (next b)) in
      let a2 = weighted_n_cong (T.branches s c) (weight T s c) (λ b. bias (next b) + t (next b)) (λ b. H)
      (λ b m. bias_least (next b) (law.successors s c b h (plans s h) m) (i.stays b m)) in
      let a3 = branch_sum_n_const T law s c h (plans s h) H in
      let a4 : branch_sum_n T s c bias + branch_sum_n T s c t ≡ W * H = sym a1 ∙ a2 ∙ a3 in
      staying_bias W F H (branch_sum_n T s c t) (branch_sum_n T s c bias) (t s) (bias s) (T.reward s c) (y s) a4 (bias_least s h i.here) i.bias

  bias_moving : (s : ℕ) → s < T.states → MovingState T p depth y s → Biased s
  unfolding Biased bias lacks level
  bias_moving s h m =
      let c = p s in
      let next : ℕ → ℕ = successor T s c in
      let W = T.denominator in
      let R = nat_abs (high -ℤ low) in
      let B = step_cost F H low high in
      let a1 = falls T law D depth hypotheses.depths s c h (plans s h) m.descends in
      let a2 = weighted_n_mono (T.branches s c) (weight T s c) (λ b. lacks (next b)) (λ b. H) (λ b l. omega arith) in
      let a3 = branch_sum_n_const T law s c h (plans s h) H in
      let a4 : branch_sum_n T s c lacks ≤ W * H = omega arith in
      let a5 = under_most W F R (T.reward s c) (y s) low high (rewards s c h (plans s h)).0 (apart low high) (hypotheses.values s h) in
      let a6 = covers W (F * R) H (branch_sum_n T s c lacks) B (branch_sum_n T s c level) (level s) a1 a4 refl in
      rw (branch_sum_n_mix T s c B lacks level)
      (moving_bias W F (F * R) (branch_sum_n T s c lacks) B (branch_sum_n T s c level) (lacks s) (level s) (T.reward s c) (y s) a5 a6)

  certificate : LowerCertificate T F p y bias
  unfolding Biased
  certificate = record {
    gain = λ s h. elim (hypotheses.states s h) [ inl i ↦ gain_staying s h i | inr m ↦ m.gain ];
    bias = λ s h. elim (hypotheses.states s h) [ inl i ↦ bias_staying s h i | inr m ↦ bias_moving s h m ];
  }

  bias_most : (s : ℕ) → bias s ≤ constant T.denominator F D H low high
  unfolding bias lacks level
  bias_most s =
      let a2 = mul-le-mul_left (step_cost F H low high) (below_top T.denominator D (depth s)) in
      omega arith

  bound : (N s : ℕ) (past : List ℕ) → s < T.states
      → (pos (T.denominator ^ N) *ℤ ((pos N *ℤ y s) -ℤ pos (constant T.denominator F D H low high))) ≤ℤ (pos F *ℤ scaled_reward T (follow p) N s past)
  bound N s past h =
      let a1 = bound_of_lower_certificate T F p y bias law plans certificate N s past h in
      let a2 = bias_most s in
      let C = constant T.denominator F D H low high in
      let g : ℤ = pos N *ℤ y s in
      let a3 : (g -ℤ pos C) ≤ℤ (g -ℤ pos (bias s)) = omega (arith, lin) in
      let a4 = mono (T.denominator ^ N) (g -ℤ pos C) (g -ℤ pos (bias s)) a3 in
      omega (arith, lin)

pub bound_of_lower_values : LowerTheorem
bound_of_lower_values T F D H low high p depth y t law rewards plans hypotheses N s past h =
    bound T F D H low high p depth y t law rewards plans hypotheses N s past h
