-- The potential: it is monotone, and a choice that descends lowers its mean by one at least
use Rattle.std.proofs.Common.{◌≡◌, ℕ, zero, suc, ◌+◌, ◌-◌, ◌*◌, ◌^◌, ◌<◌, ◌≤◌, ℤ, refl, ap, ◌∙◌, mul_comm, mul-le-mul_left, mul-one, mul-add, mul_left_comm, arith}
use native.Mathlib.Nat.{pow-succ', pow-zero}
use Rattle.table.specs.Sums.{sum_n}
use Rattle.table.specs.Table.{Table, successor, weight}
use Rattle.table.specs.Limits.{Lawful}
use Rattle.horizon.specs.Sums.{weighted_n, branch_sum_n}
use Rattle.horizon.specs.Potential.{powers, potential, Descends, step_cost, constant, PotentialLaws}
use Rattle.horizon.specs.SumsLemmas.{weighted_n_add, weighted_n_cong, weighted_n_const, weighted_n_term}

-- W + … + W^(j+1) is W × (1 + (W + … + W^j))
powers_next : (W j : ℕ) → powers W (suc j) ≡ W * (powers W j + 1)
powers_next W zero =
    let e1 = pow-succ' W 0 in let e2 : W * W ^ 0 ≡ W * 1 = ap (λ (k : ℕ). W * k) (pow-zero W) in let e3 : W * (0 + 1) ≡ W * 1 = refl in omega arith
powers_next W (suc j) =
    let ih = powers_next W j in
    let e1 = mul-add W (powers W j + W ^ suc j) 1 in
    let e2 = mul-add W (powers W j) (W ^ suc j) in
    let e3 = pow-succ' W (suc j) in
    let e4 = mul-add W (powers W j) 1 in
    omega arith

powers_more : (W i j : ℕ) → powers W i ≤ powers W (i + j)
powers_more W i zero = let q : i + 0 ≡ i = omega arith in let e = ap (powers W) q in omega arith
powers_more W i (suc j) =
    let ih = powers_more W i j in
    let q : i + suc j ≡ suc (i + j) = omega arith in
    let e = ap (powers W) q in
    omega arith

powers_mono : (W i j : ℕ) → i ≤ j → powers W i ≤ powers W j
powers_mono W i j h =
    let m = powers_more W i (j - i) in let e : powers W (i + (j - i)) ≡ powers W j = ap (powers W) (omega arith) in omega arith

-- the potential and its gap to the top
gap : (W D k : ℕ) → potential W D k + powers W (D - k) ≡ powers W D
gap W D k = let m = powers_mono W (D - k) D (omega arith) in omega arith

-- the gap of a smaller depth is at least W × (1 + the gap)
wider : (W D j k : ℕ) → j < k → k ≤ D → W * powers W (D - k) + W ≤ powers W (D - j)
wider W D j k h l =
    let m = powers_mono W (suc (D - k)) (D - j) (omega arith) in
    let e1 = powers_next W (D - k) in
    let e2 = mul-add W (powers W (D - k)) 1 in
    let e3 = mul-one W in
    omega arith

pub bottom : (W D : ℕ) → potential W D 0 ≡ 0
bottom W D = let e : powers W (D - 0) ≡ powers W D = ap (powers W) (omega arith) in omega arith

pub top : (W D : ℕ) → potential W D D ≡ powers W D
top W D = let q : D - D ≡ 0 = omega arith in let e = ap (powers W) q in omega arith

pub rises : (W D j k : ℕ) → j ≤ k → potential W D j ≤ potential W D k
rises W D j k h = let m = powers_mono W (D - k) (D - j) (omega arith) in omega arith

pub below_top : (W D k : ℕ) → potential W D k ≤ powers W D
below_top W D k = omega arith

-- e and r are the potential and its gap at each branch, e₀ and R those at the state; the branch b has a gap of W × R + W at least
drops : (k W top e₀ R : ℕ) (w e r : ℕ → ℕ) (b : ℕ) → sum_n k w ≡ W → ((i : ℕ) → i < k → e i + r i ≡ top) → e₀ + R ≡ top
    → b < k → 1 ≤ w b → W * R + W ≤ r b → weighted_n k w e + W ≤ W * e₀
drops k W top e₀ R w e r b sums parts part l weighs high =
    let a1 = weighted_n_add k w e r in
    let a2 = weighted_n_cong k w (λ i. e i + r i) (λ i. top) parts in
    let a3 = weighted_n_const k w top in
    let a4 : sum_n k w * top ≡ W * top = ap (λ (n : ℕ). n * top) sums in
    let a5 = weighted_n_term k w r b l weighs in
    let a6 : W * (e₀ + R) ≡ W * top = ap (λ (n : ℕ). W * n) part in
    let a7 = mul-add W e₀ R in
    omega arith

-- where the mean of the potential e falls by one, B × e covers S + H
pub covers : (W S H M B Me e : ℕ) → Me + W ≤ W * e → M ≤ W * H → B ≡ S + H → W * S + (M + B * Me) ≤ W * (B * e)
covers W S H M B Me e drop small is =
    let b1 = mul-le-mul_left B drop in
    let b2 = mul-add B Me W in
    let b3 = mul_left_comm B W e in
    let b4 = mul_comm B W in
    let b5 : W * B ≡ W * (S + H) = ap (λ (n : ℕ). W * n) is in
    let b6 = mul-add W S H in
    omega arith

pub falls : (T : Table) → Lawful T → (D : ℕ) (depth : ℕ → ℕ) → ((s : ℕ) → s < T.states → depth s ≤ D)
    → (s c : ℕ) → s < T.states → c < T.choices s → Descends T depth s c
    → branch_sum_n T s c (λ u. potential T.denominator D (depth u)) + T.denominator ≤ T.denominator * potential T.denominator D (depth s)
falls T law D depth depths s c h k (b, l, m) =
    let W = T.denominator in
    let at : ℕ → ℕ = λ i. depth (successor T s c i) in
    drops (T.branches s c) W (powers W D) (potential W D (depth s)) (powers W (D - depth s)) (weight T s c)
    (λ i. potential W D (at i)) (λ i. powers W (D - at i)) b
    (law.complete s c h k) (λ i j. gap W D (at i)) (gap W D (depth s)) l (law.weights s c b h k l)
    (wider W D (at b) (depth s) m (depths s h))

gaps : (W D k : ℕ) → k < D → powers W (D - k) ≡ W * (powers W (D - suc k) + 1)
gaps W D k h = let q : D - k ≡ suc (D - suc k) = omega arith in ap (powers W) q ∙ powers_next W (D - suc k)

grows : (W F D E H : ℕ) (low high : ℤ) → D ≤ E → constant W F D H low high ≤ constant W F E H low high
grows W F D E H low high h = let m = mul-le-mul_left (step_cost F H low high) (powers_mono W D E h) in omega arith

pub potential_laws : PotentialLaws
potential_laws = record { bottom = bottom; top = top; gap = gap; gaps = gaps; rises = rises; falls = falls; grows = grows }
