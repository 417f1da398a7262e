-- Division toward zero, and the two roundings
use Rattle.std.proofs.Common.{◌≡◌, ℕ, ◌-◌, ◌*◌, ◌^◌, ◌≤◌, ℤ, pos, ◌+ℤ◌, ◌-ℤ◌, ◌*ℤ◌, neg_ℤ, ◌≤ℤ◌, ◌<ℤ◌, int_div, int_rem, ◌∙◌, ⊎_elim, mul-le-mul_right, mul-one, arith, w64, SFits}
use Rattle.std.proofs.lemmas.Bool.{cases_eq}
use Rattle.std.proofs.lemmas.Int.{ints, quot-rem, rem_below}
use Rattle.std.proofs.Math.IntN.{*ℤ_comm}
use borrow.Author.Differences.{abs_is}
use Rattle.horizon.specs.Means.{round_down, round_up}
use Rattle.horizon.specs.Ring.{lin, over, over_neg}
use Rattle.horizon.specs.Rounding.{down_most, down_none, up_least, up_none, down_is, up_is}

-- a quotient toward zero and its remainder, both 0 where the denominator is 0
module _ (z : ℤ) (W : ℕ) (q r : ℤ) (none : W ≡ 0 → (q ≡ pos 0) × (r ≡ pos 0))
    (whole : 1 ≤ W → q ≡ int_div z (pos W)) (rest : 1 ≤ W → r ≡ int_rem z (pos W)) where
  -- z = W × q + r, and r is less than W off 0
  parts : 1 ≤ W → (z ≡ (pos W *ℤ q) +ℤ r) × (r <ℤ pos W) × (pos 0 <ℤ (r +ℤ pos W))
  parts h =
      let a = whole h in
      let b = rest h in
      let e = quot-rem z (pos W) in
      let c = *ℤ_comm (int_div z (pos W)) (pos W) in
      let n = rem_below z (pos W) h in
      (rw a (rw b (omega (arith, lin))), omega (arith, lin, abs_is), omega (arith, lin, abs_is))

  -- where something remains the denominator is not 0
  divides : (r ≡ pos 0 → ⊥) → 1 ≤ W
  divides n = ⊎_elim (λ (e : W ≡ 0). absurd (n (none e).1)) (λ (e : W ≡ 0 → ⊥). omega arith) (cases_eq W 0)

  pub up_more : pos 0 <ℤ r → q +ℤ pos 1 ≡ round_up z W
  up_more l =
      let h = divides (λ e. omega (arith, lin)) in
      let p = parts h in
      let p0 = p.0 in
      let p1 = p.1 in
      let o = over W q (pos 1) in
      let u = mul-one W in
      up_is z (q +ℤ pos 1) W h (omega (arith, lin)) (omega (arith, lin))

  pub up_same : r ≤ℤ pos 0 → q ≡ round_up z W
  up_same l =
      ⊎_elim
      (λ (e : W ≡ 0). (none e).0 ∙ up_none z W e)
      (λ (e : W ≡ 0 → ⊥).
      let h : 1 ≤ W = omega arith in
      let p = parts h in
      let p0 = p.0 in
      let p2 = p.2 in
      up_is z q W h (omega (arith, lin)) (omega (arith, lin)))
      (cases_eq W 0)

  pub down_less : r <ℤ pos 0 → q -ℤ pos 1 ≡ round_down z W
  down_less l =
      let h = divides (λ e. omega (arith, lin)) in
      let p = parts h in
      let p0 = p.0 in
      let p2 = p.2 in
      let o = over W q (neg_ℤ (pos 1)) in
      let n = over_neg W (pos 1) in
      let u = mul-one W in
      down_is z (q -ℤ pos 1) W h (omega (arith, lin)) (omega (arith, lin))

  pub down_same : pos 0 ≤ℤ r → q ≡ round_down z W
  down_same l =
      ⊎_elim
      (λ (e : W ≡ 0). (none e).0 ∙ down_none z W e)
      (λ (e : W ≡ 0 → ⊥).
      let h : 1 ≤ W = omega arith in
      let p = parts h in
      let p0 = p.0 in
      let p1 = p.1 in
      down_is z q W h (omega (arith, lin)) (omega (arith, lin)))
      (cases_eq W 0)

-- what 64 bits hold is rounded up to no more than they hold, and down to no less
module _ (z : ℤ) (W : ℕ) (fits : SFits w64 z) where
  pub up_greatest : round_up z W ≤ℤ pos (2 ^ 63 - 1)
  up_greatest =
      ⊎_elim
      (λ (e : W ≡ 0). let n = up_none z W e in omega (arith, lin))
      (λ (e : W ≡ 0 → ⊥).
      let h : 1 ≤ W = omega arith in
      let m : 1 * (2 ^ 63 - 1) ≤ W * (2 ^ 63 - 1) = mul-le-mul_right (2 ^ 63 - 1) h in
      up_least z (pos (2 ^ 63 - 1)) W h (omega (arith, ints)))
      (cases_eq W 0)

  pub down_least : neg_ℤ (pos (2 ^ 63)) ≤ℤ round_down z W
  down_least =
      ⊎_elim
      (λ (e : W ≡ 0). let n = down_none z W e in omega (arith, lin))
      (λ (e : W ≡ 0 → ⊥).
      let h : 1 ≤ W = omega arith in
      let n = over_neg W (pos (2 ^ 63)) in
      let m : 1 * 2 ^ 63 ≤ W * 2 ^ 63 = mul-le-mul_right (2 ^ 63) h in
      down_most z (neg_ℤ (pos (2 ^ 63))) W h (omega (arith, ints)))
      (cases_eq W 0)
