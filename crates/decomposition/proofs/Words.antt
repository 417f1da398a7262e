-- The bits of words and of rows.
use Rattle.std.proofs.Common.{◌≡◌, ℕ, zero, suc, ◌+◌, ◌-◌, ◌*◌, ◌/◌, ◌%◌, ◌^◌, ◌<◌, ◌≤◌, Bool, ◌&&◌, ◌||◌, eqb, ◌⊎◌, List, [], length, get_or, set, sym, refl, ap, ◌∙◌, ap₂, inl, inr, ⊎_elim, arith}
use native.Mathlib.Nat.{div-eq_of_lt, div_self, mul-mod_left}
use lib.Bits.{bit_or, or_shr, or_mod}
use Rattle.std.proofs.Math.Bool.{or-false}
use Rattle.std.proofs.lemmas.Nat.{pow_pos, pow-add, pow_below, shl-shr, one_shl}
use Rattle.std.proofs.lemmas.List.{get_or-set_same, get_or-set_other}
use Rattle.std.proofs.lemmas.Bool.{cases_order, cases_eq, eq-eqb, ne_eqb}
use Rattle.decomposition.specs.Bits.{bit_of, bit_in, bit_at, Marks}

low : (n : ℕ) → n < 2 → (n ≡ 0) ⊎ (n ≡ 1)
low zero h = inl refl
low (suc zero) h = inr refl
low (suc (suc n)) h = absurd (omega arith)

or_low : (p q : ℕ) → p < 2 → q < 2 → eqb (bit_or p q) 1 ≡ (eqb p 1 || eqb q 1)
or_low p q h k =
    ⊎_elim
    (λ (e : p ≡ 0). ⊎_elim (λ (f : q ≡ 0). rw (e, f) refl) (λ (f : q ≡ 1). rw (e, f) refl) (low q k))
    (λ (e : p ≡ 1). ⊎_elim (λ (f : q ≡ 0). rw (e, f) refl) (λ (f : q ≡ 1). rw (e, f) refl) (low q k))
    (low p h)

-- a bit of two words together
pub bit-or : (a b k : ℕ) → bit_of (bit_or a b) k ≡ (bit_of a k || bit_of b k)
unfolding bit_of
bit-or a b k =
    ap (λ (x : ℕ). eqb (x % 2) 1) (or_shr a b k)
    ∙ ap (λ (x : ℕ). eqb x 1) (or_mod (a / 2 ^ k) (b / 2 ^ k) 1)
    ∙ or_low (a / 2 ^ k % 2) (b / 2 ^ k % 2) (omega arith) (omega arith)

-- the one bit of a power of two
pub bit_one : (j k : ℕ) → bit_of (2 ^ j) k ≡ eqb k j
unfolding bit_of
bit_one j k =
    ⊎_elim
    (λ (e : j ≡ k). rw e (ap (λ (x : ℕ). eqb (x % 2) 1) (div_self (pow_pos k)) ∙ sym (eq-eqb k k refl)))
    (⊎_elim
    (λ (h : j < k).
    ap (λ (x : ℕ). eqb (x % 2) 1) (div-eq_of_lt (pow_below j k h)) ∙ sym (ne_eqb k j (λ q. omega arith)))
    (λ (h : k < j).
    let d : ℕ = j - (k + 1) in
    let e : 2 ^ j ≡ 2 ^ (d + 1) * 2 ^ k = ap (λ (x : ℕ). 2 ^ x) (above h) ∙ pow-add 2 (d + 1) k in
    let f : 2 ^ j / 2 ^ k ≡ 2 ^ d * 2 = ap (λ (x : ℕ). x / 2 ^ k) e ∙ shl-shr (2 ^ (d + 1)) k ∙ pow-add 2 d 1 in
    ap (λ (x : ℕ). eqb (x % 2) 1) f ∙ ap (λ (x : ℕ). eqb x 1) (mul-mod_left (2 ^ d) 2) ∙ sym (ne_eqb k j (λ q. omega arith))))
    (cases_order j k)
  where
    above : k < j → j ≡ (j - (k + 1)) + 1 + k
    above h = omega arith

-- one bit is set in a row, by its word
pub set-bit : (ws : List ℕ) (col : ℕ) → col < 256 → length ws ≡ 4 → (t : ℕ) → t < 256
    → bit_in (set ws (col / 64) (bit_or (get_or ws (col / 64) 0) ((1 * 2 ^ (col % 64)) % 2 ^ 64))) t ≡ (bit_in ws t || eqb t col)
set-bit ws col h l t k =
    ⊎_elim
    (λ (q : place ≡ at).
    let same : get_or (set ws at both) place 0 ≡ both = ap (λ (x : ℕ). get_or (set ws at both) x 0) q ∙ get_or-set_same ws at both 0 (omega arith) in
    let old : get_or ws at 0 ≡ get_or ws place 0 = ap (λ (x : ℕ). get_or ws x 0) (sym q) in
    ap (λ (w : ℕ). bit_of w (t % 64)) same
    ∙ bit-or (get_or ws at 0) ((1 * 2 ^ (col % 64)) % 2 ^ 64) (t % 64)
    ∙ ap₂ (λ (w x : ℕ). bit_of w (t % 64) || bit_of x (t % 64)) old (one_shl (col % 64) 64 (omega arith))
    ∙ ap (λ (x : Bool). bit_in ws t || x) (bit_one (col % 64) (t % 64) ∙ here q))
    (λ (q : place ≡ at → ⊥).
    ap (λ (w : ℕ). bit_of w (t % 64)) (get_or-set_other ws at place both 0 q)
    ∙ sym (or-false (bit_in ws t))
    ∙ ap (λ (x : Bool). bit_in ws t || x) (sym (ne_eqb t col (λ f. q (ap (λ (x : ℕ). x / 64) f)))))
    (cases_eq place at)
  where
    at : ℕ
    at = col / 64

    place : ℕ
    place = t / 64

    both : ℕ
    both = bit_or (get_or ws at 0) ((1 * 2 ^ (col % 64)) % 2 ^ 64)

    here : place ≡ at → eqb (t % 64) (col % 64) ≡ eqb t col
    here q =
        ⊎_elim
        (λ (f : t ≡ col). eq-eqb (t % 64) (col % 64) (ap (λ (x : ℕ). x % 64) f) ∙ sym (eq-eqb t col f))
        (λ (f : t ≡ col → ⊥). ne_eqb (t % 64) (col % 64) (λ g. f (omega arith)) ∙ sym (ne_eqb t col f))
        (cases_eq t col)

-- one row has the bits of p besides
pub row_marked : (rows : List (List ℕ)) (row : ℕ) (new : List ℕ) (p : ℕ → Bool) → row < length rows
    → ((t : ℕ) → t < 256 → bit_in new t ≡ (bit_in (get_or rows row []) t || p t)) → Marks rows (set rows row new) row p
row_marked rows row new p l h r t k =
    ⊎_elim
    (λ (e : r ≡ row).
    rw e (ap (λ (xs : List ℕ). bit_in xs t) (get_or-set_same rows row new [] l)
    ∙ h t k ∙ ap (λ (x : Bool). bit_at rows row t || (x && p t)) (sym (eq-eqb row row refl))))
    (λ (e : r ≡ row → ⊥).
    ap (λ (xs : List ℕ). bit_in xs t) (get_or-set_other rows row r new [] e)
    ∙ sym (or-false (bit_at rows r t)) ∙ ap (λ (x : Bool). bit_at rows r t || (x && p t)) (sym (ne_eqb r row e)))
    (cases_eq r row)

-- the words before j have those of another row besides
pub record Ored (old new other : List ℕ) (j : ℕ) : Type 0 where
  pub done : (m : ℕ) → m < j → get_or new m 0 ≡ bit_or (get_or old m 0) (get_or other m 0)
  pub rest : (m : ℕ) → j ≤ m → get_or new m 0 ≡ get_or old m 0

pub ored_all : {old new other : List ℕ} → Ored old new other 4 → (t : ℕ) → t < 256 → bit_in new t ≡ (bit_in old t || bit_in other t)
ored_all {old} {new} {other} o t h =
    ap (λ (w : ℕ). bit_of w (t % 64)) (o.done (t / 64) (omega arith)) ∙ bit-or (get_or old (t / 64) 0) (get_or other (t / 64) 0) (t % 64)
