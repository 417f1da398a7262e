-- Sums and weighted sums: order, linearity, constants, one term
use Rattle.std.specs.Prelude.{◌≡◌, ℕ, zero, suc, ◌+◌, ◌*◌, ◌<◌, ◌≤◌, ℤ, pos, ◌+ℤ◌, ◌*ℤ◌, neg_ℤ, ◌≤ℤ◌, refl}
use Rattle.std.proofs.Common.{sym, ap, ap₂, add-one, arith, mul-add, add-mul, mul_left_comm, mul-le-mul_left, mul-le-mul_right, zero-mul, mul-zero}
use Rattle.std.proofs.Math.Decide.{ℕ_discrete}
use Rattle.std.proofs.Math.IntN.{zero-*ℤ}
use Rattle.table.specs.Sums.{sum_n}
use Rattle.horizon.specs.Sums.{sum_z, weighted_n, weighted_z}
use Rattle.horizon.specs.Ring.{lin, over, over_neg, join, swap, mono}

-- one more term, as a loop adds it
pub sum_n_more : (k : ℕ) (f : ℕ → ℕ) → sum_n (k + 1) f ≡ sum_n k f + f k
sum_n_more k f = rw add-one refl

pub sum_z_more : (k : ℕ) (f : ℕ → ℤ) → sum_z (k + 1) f ≡ sum_z k f +ℤ f k
sum_z_more k f = rw add-one refl

-- weighted sums of naturals: order, linearity, constants
pub weighted_n_mono : (k : ℕ) (w f g : ℕ → ℕ) → ((b : ℕ) → b < k → f b ≤ g b) → weighted_n k w f ≤ weighted_n k w g
weighted_n_mono zero w f g h = omega arith
weighted_n_mono (suc k) w f g h =
    let ih = weighted_n_mono k w f g (λ b l. h b (omega arith)) in
    let e = mul-le-mul_left (w k) (h k (omega arith)) in
    omega arith

pub weighted_n_add : (k : ℕ) (w f g : ℕ → ℕ) → weighted_n k w (λ b. f b + g b) ≡ weighted_n k w f + weighted_n k w g
weighted_n_add zero w f g = refl
weighted_n_add (suc k) w f g = let ih = weighted_n_add k w f g in let e = mul-add (w k) (f k) (g k) in omega arith

pub weighted_n_scale : (k : ℕ) (w f : ℕ → ℕ) (n : ℕ) → weighted_n k w (λ b. n * f b) ≡ n * weighted_n k w f
weighted_n_scale zero w f n = sym (mul-zero n)
weighted_n_scale (suc k) w f n =
    let ih = weighted_n_scale k w f n in
    let e1 = mul-add n (weighted_n k w f) (w k * f k) in
    let e2 = mul_left_comm (w k) n (f k) in
    omega arith

pub weighted_n_const : (k : ℕ) (w : ℕ → ℕ) (n : ℕ) → weighted_n k w (λ b. n) ≡ sum_n k w * n
weighted_n_const zero w n = sym (zero-mul n)
weighted_n_const (suc k) w n = let ih = weighted_n_const k w n in let e = add-mul (sum_n k w) (w k) n in omega arith

-- one term: the branch b of weight at least 1
pub weighted_n_term : (k : ℕ) (w f : ℕ → ℕ) (b : ℕ) → b < k → 1 ≤ w b → f b ≤ weighted_n k w f
weighted_n_term zero w f b h l = omega arith
weighted_n_term (suc k) w f b h l =
    let ih : b < k → f b ≤ weighted_n k w f = λ m. weighted_n_term k w f b m l in
    elim (ℕ_discrete b k) [ yes e ↦ here e | no n ↦ (let m = ih (omega arith) in omega arith) ]
  where
    here : b ≡ k → f b ≤ weighted_n k w f + w k * f k
    here e =
        let m : 1 * f b ≤ w b * f b = mul-le-mul_right (f b) l in
        let q : w b * f b ≡ w k * f k = ap (λ (i : ℕ). w i * f i) e in
        omega arith

-- weighted sums of integers: order, linearity, constants
pub weighted_z_mono : (k : ℕ) (w : ℕ → ℕ) (f g : ℕ → ℤ) → ((b : ℕ) → b < k → f b ≤ℤ g b) → weighted_z k w f ≤ℤ weighted_z k w g
weighted_z_mono zero w f g h = omega (arith, lin)
weighted_z_mono (suc k) w f g h =
    let ih = weighted_z_mono k w f g (λ b l. h b (omega arith)) in
    let e = mono (w k) (f k) (g k) (h k (omega arith)) in
    omega (arith, lin)

pub weighted_z_add : (k : ℕ) (w : ℕ → ℕ) (f g : ℕ → ℤ) → weighted_z k w (λ b. f b +ℤ g b) ≡ weighted_z k w f +ℤ weighted_z k w g
weighted_z_add zero w f g = refl
weighted_z_add (suc k) w f g = let ih = weighted_z_add k w f g in let e = over (w k) (f k) (g k) in omega (arith, lin)

pub weighted_z_scale : (k : ℕ) (w : ℕ → ℕ) (f : ℕ → ℤ) (n : ℕ) → weighted_z k w (λ b. pos n *ℤ f b) ≡ pos n *ℤ weighted_z k w f
weighted_z_scale zero w f n = ap pos (sym (mul-zero n))
weighted_z_scale (suc k) w f n =
    let ih = weighted_z_scale k w f n in
    let e1 = over n (weighted_z k w f) (pos (w k) *ℤ f k) in
    let e2 = swap (w k) n (f k) in
    omega (arith, lin)

pub weighted_z_neg : (k : ℕ) (w : ℕ → ℕ) (f : ℕ → ℤ) → weighted_z k w (λ b. neg_ℤ (f b)) ≡ neg_ℤ (weighted_z k w f)
weighted_z_neg zero w f = refl
weighted_z_neg (suc k) w f = let ih = weighted_z_neg k w f in let e = over_neg (w k) (f k) in omega (arith, lin)

pub weighted_z_const : (k : ℕ) (w : ℕ → ℕ) (z : ℤ) → weighted_z k w (λ b. z) ≡ pos (sum_n k w) *ℤ z
weighted_z_const zero w z = sym (zero-*ℤ z)
weighted_z_const (suc k) w z = let ih = weighted_z_const k w z in let e = join (sum_n k w) (w k) z in omega (arith, lin)

-- over naturals it is the natural weighted sum
pub weighted_z_pos : (k : ℕ) (w f : ℕ → ℕ) → weighted_z k w (λ b. pos (f b)) ≡ pos (weighted_n k w f)
weighted_z_pos zero w f = refl
weighted_z_pos (suc k) w f = ap (λ (z : ℤ). z +ℤ pos (w k * f k)) (weighted_z_pos k w f)

-- equal at each branch
pub weighted_n_cong : (k : ℕ) (w f g : ℕ → ℕ) → ((b : ℕ) → b < k → f b ≡ g b) → weighted_n k w f ≡ weighted_n k w g
weighted_n_cong zero w f g h = refl
weighted_n_cong (suc k) w f g h =
    ap₂ ◌+◌ (weighted_n_cong k w f g (λ b l. h b (omega arith))) (ap (λ (n : ℕ). w k * n) (h k (omega arith)))

pub weighted_z_cong : (k : ℕ) (w : ℕ → ℕ) (f g : ℕ → ℤ) → ((b : ℕ) → b < k → f b ≡ g b) → weighted_z k w f ≡ weighted_z k w g
weighted_z_cong zero w f g h = refl
weighted_z_cong (suc k) w f g h =
    ap₂ ◌+ℤ◌ (weighted_z_cong k w f g (λ b l. h b (omega arith))) (ap (λ (z : ℤ). pos (w k) *ℤ z) (h k (omega arith)))
