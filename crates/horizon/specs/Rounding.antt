-- The two roundings of z / W: W × (the one below) ≤ z < W × (the one below) + W, and its mirror.
use Rattle.std.specs.Prelude.{◌≡◌, ℕ, zero, suc, ◌+◌, ◌*◌, ◌/◌, ◌<◌, ◌≤◌, ℤ, pos, negsuc, ◌+ℤ◌, ◌*ℤ◌, neg_ℤ, ◌≤ℤ◌, ◌<ℤ◌, refl}
use Rattle.std.proofs.Common.{ap, ⊎_elim, arith, mul-suc, mul_comm, mul-one}
use Rattle.std.proofs.Math.Nat.{mul-div-le, lt-div-mul-add}
use Rattle.std.proofs.lemmas.Nat.{mul-le}
use Rattle.std.proofs.lemmas.Bool.{cases_eq}
use Rattle.std.proofs.lemmas.Int.{by_lt_z}
use Rattle.horizon.specs.Means.{round_down, round_up, Within}
use Rattle.horizon.specs.Ring.{lin, over, over_neg, mono, cancel}

rest : (a W : ℕ) → 1 ≤ W → a < W * (a / W) + W
rest a W h = let e = lt-div-mul-add {a = a} {b = W} h in let c = mul_comm (a / W) W in omega arith

pub down_below : (z : ℤ) (W : ℕ) → 1 ≤ W → (pos W *ℤ round_down z W) ≤ℤ z
unfolding round_down
down_below z zero h = let e : ⊥ = omega arith in absurd e
down_below (pos a) (suc k) h = let e = mul-div-le a (suc k) in omega (arith, lin)
down_below (negsuc a) (suc k) h = let e = rest a (suc k) h in let c = mul-suc (suc k) (a / suc k) in omega (arith, lin)

pub down_next : (z : ℤ) (W : ℕ) → 1 ≤ W → z <ℤ ((pos W *ℤ round_down z W) +ℤ pos W)
unfolding round_down
down_next z zero h = let e : ⊥ = omega arith in absurd e
down_next (pos a) (suc k) h = let e = rest a (suc k) h in omega (arith, lin)
down_next (negsuc a) (suc k) h = let e = mul-div-le a (suc k) in let c = mul-suc (suc k) (a / suc k) in omega (arith, lin)

-- 0 where W is 0
pub down_none : (z : ℤ) (W : ℕ) → W ≡ 0 → pos 0 ≡ round_down z W
unfolding round_down
down_none z zero e = refl
down_none z (suc k) e = let f : ⊥ = omega arith in absurd f

pub up_none : (z : ℤ) (W : ℕ) → W ≡ 0 → pos 0 ≡ round_up z W
unfolding round_up
up_none z W e = ap neg_ℤ (down_none (neg_ℤ z) W e)

-- less than one step apart, W-fold
within : (W : ℕ) (a b : ℤ) → 1 ≤ W → (pos W *ℤ a) <ℤ ((pos W *ℤ b) +ℤ pos W) → a ≤ℤ b
within W a b h l =
    by_lt_z b a
    (λ (k : b <ℤ a).
    let e : (b +ℤ pos 1) ≤ℤ a = omega (arith, lin) in
    let m = mono W (b +ℤ pos 1) a e in
    let o = over W b (pos 1) in
    let u = mul-one W in
    let z : ⊥ = omega (arith, lin) in
    absurd z)
    (λ (k : a ≤ℤ b). k)

-- the largest number below, the smallest above
pub down_most : (z k : ℤ) (W : ℕ) → 1 ≤ W → (pos W *ℤ k) ≤ℤ z → k ≤ℤ round_down z W
down_most z k W h b = let n = down_next z W h in within W k (round_down z W) h (omega (arith, lin))

pub up_above : (z : ℤ) (W : ℕ) → 1 ≤ W → z ≤ℤ (pos W *ℤ round_up z W)
unfolding round_up
up_above z W h = let e = down_below (neg_ℤ z) W h in let o = over_neg W (round_down (neg_ℤ z) W) in omega (arith, lin)

pub up_next : (z : ℤ) (W : ℕ) → 1 ≤ W → (pos W *ℤ round_up z W) <ℤ (z +ℤ pos W)
unfolding round_up
up_next z W h = let e = down_next (neg_ℤ z) W h in let o = over_neg W (round_down (neg_ℤ z) W) in omega (arith, lin)

pub up_least : (z k : ℤ) (W : ℕ) → 1 ≤ W → z ≤ℤ (pos W *ℤ k) → round_up z W ≤ℤ k
up_least z k W h b = let n = up_next z W h in within W (round_up z W) k h (omega (arith, lin))

-- each is the only number so near
pub down_is : (z k : ℤ) (W : ℕ) → 1 ≤ W → (pos W *ℤ k) ≤ℤ z → z <ℤ ((pos W *ℤ k) +ℤ pos W) → k ≡ round_down z W
down_is z k W h below next =
    let a = down_most z k W h below in
    let b = down_below z W h in
    let c = within W (round_down z W) k h (omega (arith, lin)) in
    omega (arith, lin)

pub up_is : (z k : ℤ) (W : ℕ) → 1 ≤ W → z ≤ℤ (pos W *ℤ k) → (pos W *ℤ k) <ℤ (z +ℤ pos W) → k ≡ round_up z W
up_is z k W h above next =
    let a = up_least z k W h above in
    let b = up_above z W h in
    let c = within W k (round_up z W) h (omega (arith, lin)) in
    omega (arith, lin)

-- exact at multiples of W
pub down_exact : (z : ℤ) (W : ℕ) → 1 ≤ W → round_down (pos W *ℤ z) W ≡ z
down_exact z W h = let e = down_is (pos W *ℤ z) z W h (omega (arith, lin)) (omega (arith, lin)) in omega (arith, lin)

pub up_exact : (z : ℤ) (W : ℕ) → 1 ≤ W → round_up (pos W *ℤ z) W ≡ z
up_exact z W h = let e = up_is (pos W *ℤ z) z W h (omega (arith, lin)) (omega (arith, lin)) in omega (arith, lin)

-- a larger number is rounded to no smaller one
pub down_mono : (a b : ℤ) (W : ℕ) → 1 ≤ W → a ≤ℤ b → round_down a W ≤ℤ round_down b W
down_mono a b W h l = let e = down_below a W h in down_most b (round_down a W) W h (omega (arith, lin))

pub up_mono : (a b : ℤ) (W : ℕ) → 1 ≤ W → a ≤ℤ b → round_up a W ≤ℤ round_up b W
up_mono a b W h l = let e = up_above b W h in up_least a (round_up b W) W h (omega (arith, lin))

-- what is between -B and B stays there
pub down_within : Within round_down
down_within z W B low high =
    ⊎_elim
    (λ (e : W ≡ 0). let n = down_none z W e in (omega (arith, lin), omega (arith, lin)))
    (λ (e : W ≡ 0 → ⊥).
    let h : 1 ≤ W = omega arith in
    let o = over_neg W (pos B) in
    let m : 1 * B ≤ W * B = mul-le 1 B W B h (omega arith) in
    let b = down_below z W h in
    (down_most z (neg_ℤ (pos B)) W h (omega (arith, lin)), cancel W (round_down z W) (pos B) h (omega (arith, lin))))
    (cases_eq W 0)

pub up_within : Within round_up
unfolding round_up
up_within z W B low high = let d = down_within (neg_ℤ z) W B (omega (arith, lin)) (omega (arith, lin)) in (omega (arith, lin), omega (arith, lin))
