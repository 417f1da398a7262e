-- Integers: linear facts, and the laws of `pos n *ℤ z`, a natural number times an integer.
use Rattle.std.specs.Prelude.{◌≡◌, ℕ, zero, suc, ◌+◌, ◌*◌, ◌≤◌, ℤ, pos, ◌+ℤ◌, ◌-ℤ◌, ◌*ℤ◌, neg_ℤ, ◌≤ℤ◌, ◌<ℤ◌, unsigned_abs}
use Rattle.std.proofs.Common.{sym, ap, ◌∙◌, arith, mul_comm, mul-one, zero-mul, suc-mul}
use Rattle.std.proofs.Math.IntN.{zero-*ℤ, suc_ℤ-*ℤ}
use borrow.Author.Differences.{same_out, le_out, lt_out, lt-true, lt-false, le-true, le-false, same_in, at_most_in, below_in, sum_is_lem, neg_is, abs_is}
use Rattle.std.proofs.lemmas.Int.{by_lt_z}

-- `omega (arith, lin)`: linear facts over ℤ, where a product is an unknown
pub ruleset lin = (same_out, le_out, lt_out, lt-true, lt-false, le-true, le-false, same_in, at_most_in, below_in, sum_is_lem, neg_is)

pub le_trans : (a b c : ℤ) → a ≤ℤ b → b ≤ℤ c → a ≤ℤ c
le_trans a b c p q = omega (arith, lin)

pub le_same : (a b : ℤ) → a ≡ b → a ≤ℤ b
le_same a b e = omega (arith, lin)

-- (n + 1) × z and 1 × z
pub more : (n : ℕ) (z : ℤ) → pos (suc n) *ℤ z ≡ (pos n *ℤ z) +ℤ z
more n z = suc_ℤ-*ℤ (pos n) z

pub once : (z : ℤ) → pos 1 *ℤ z ≡ z
once z = let e1 = more 0 z in let e2 = zero-*ℤ z in omega (arith, lin)

-- n × (a + b) and n × (- a)
pub over : (n : ℕ) (a b : ℤ) → pos n *ℤ (a +ℤ b) ≡ (pos n *ℤ a) +ℤ (pos n *ℤ b)
over zero a b = let e1 = zero-*ℤ a in let e2 = zero-*ℤ b in let e3 = zero-*ℤ (a +ℤ b) in omega (arith, lin)
over (suc n) a b =
    let e1 = more n a in let e2 = more n b in let e3 = more n (a +ℤ b) in let e4 = over n a b in omega (arith, lin)

pub over_neg : (n : ℕ) (a : ℤ) → pos n *ℤ neg_ℤ a ≡ neg_ℤ (pos n *ℤ a)
over_neg zero a = let e1 = zero-*ℤ a in let e2 = zero-*ℤ (neg_ℤ a) in omega (arith, lin)
over_neg (suc n) a = let e1 = more n a in let e2 = more n (neg_ℤ a) in let e3 = over_neg n a in omega (arith, lin)

-- (m + n) × z, m × (n × z), and the order of two factors
pub join : (m n : ℕ) (z : ℤ) → (pos m *ℤ z) +ℤ (pos n *ℤ z) ≡ pos (m + n) *ℤ z
join zero n z = let e1 = zero-*ℤ z in let e2 : pos (zero + n) *ℤ z ≡ pos n *ℤ z = ap (λ (k : ℕ). pos k *ℤ z) (omega arith) in omega (arith, lin)
join (suc m) n z =
    let e1 = more m z in
    let e2 = more (m + n) z in
    let e3 : pos (suc m + n) *ℤ z ≡ pos (suc (m + n)) *ℤ z = ap (λ (k : ℕ). pos k *ℤ z) (omega arith) in
    let e4 = join m n z in
    omega (arith, lin)

pub times : (m n : ℕ) (z : ℤ) → pos m *ℤ (pos n *ℤ z) ≡ pos (m * n) *ℤ z
times zero n z =
    let e1 = zero-*ℤ z in
    let e2 = zero-*ℤ (pos n *ℤ z) in
    let e3 : pos (zero * n) *ℤ z ≡ pos 0 *ℤ z = ap (λ (k : ℕ). pos k *ℤ z) (zero-mul n) in
    omega (arith, lin)
times (suc m) n z =
    let e1 = more m (pos n *ℤ z) in
    let e2 = join (m * n) n z in
    let e3 : pos (suc m * n) *ℤ z ≡ pos (m * n + n) *ℤ z = ap (λ (k : ℕ). pos k *ℤ z) (suc-mul m n) in
    let e4 = times m n z in
    omega (arith, lin)

pub swap : (m n : ℕ) (z : ℤ) → pos m *ℤ (pos n *ℤ z) ≡ pos n *ℤ (pos m *ℤ z)
swap m n z = times m n z ∙ ap (λ (k : ℕ). pos k *ℤ z) (mul_comm m n) ∙ sym (times n m z)

-- order: a factor keeps it, and a factor that is not 0 can be left out
pub mono : (n : ℕ) (a b : ℤ) → a ≤ℤ b → (pos n *ℤ a) ≤ℤ (pos n *ℤ b)
mono zero a b h = let e1 = zero-*ℤ a in let e2 = zero-*ℤ b in omega (arith, lin)
mono (suc n) a b h = let e1 = more n a in let e2 = more n b in let e3 = mono n a b h in omega (arith, lin)

pub cancel : (n : ℕ) (a b : ℤ) → 1 ≤ n → (pos n *ℤ a) ≤ℤ (pos n *ℤ b) → a ≤ℤ b
cancel n a b h l =
    by_lt_z b a
    (λ (k : b <ℤ a).
    let e : (b +ℤ pos 1) ≤ℤ a = omega (arith, lin) in
    let m = mono n (b +ℤ pos 1) a e in
    let o = over n b (pos 1) in
    let u = mul-one n in
    let z : ⊥ = omega (arith, lin) in
    absurd z)
    (λ (k : a ≤ℤ b). k)

-- the distance of two integers reaches from one to the other
pub apart : (low high : ℤ) → high ≤ℤ (low +ℤ pos (unsigned_abs (high -ℤ low)))
apart low high = omega (arith, lin, abs_is)
