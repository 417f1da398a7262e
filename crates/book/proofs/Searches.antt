-- Tests on the numbers below a count, and what a search among them finds.
use Rattle.std.proofs.Common.{◌≡◌, ℕ, zero, suc, ◌<◌, ◌≤◌, Bool, true, false, Some, None, Option, sym, refl, ⊎_elim, arith}
use Rattle.std.specs.Option.{MatchOption, unwrap_or}
use Rattle.std.proofs.lemmas.Bool.{cases_lt, both_ways, cond_both}
use Rattle.components.specs.Below.{any, first}
use Rattle.components.proofs.Labels.{first_is}
use Rattle.rules.proofs.Layers.{first_most}

pub any_ext : (n : ℕ) (p q : ℕ → Bool) → ((i : ℕ) → i < n → p i ≡ q i) → any n p ≡ any n q
any_ext zero p q h = refl
any_ext (suc n) p q h =
    let a : any n p ≡ any n q = any_ext n p q (λ i l. h i (omega arith)) in
    let b : p n ≡ q n = h n (omega arith) in
    rw (a, b) refl

-- a first number below the count passes
pub first_hit : (n : ℕ) (p : ℕ → Bool) → first n p < n → p (first n p) ≡ true
unfolding first
first_hit zero p h = absurd (omega arith)
first_hit (suc n) p h =
    cond_both (p 0) 0 (suc (first n (λ j. p (suc j)))) (λ x. x < suc n → p x ≡ true) (λ e _. e)
    (λ _ l. first_hit n (λ j. p (suc j)) (omega arith)) h

pub first_past : (n : ℕ) (p : ℕ → Bool) → ((d : ℕ) → d < n → p d ≡ false) → first n p ≡ n
first_past n p h =
    let a = first_most n p in
    ⊎_elim
    (λ (k : first n p < n). absurd (both_ways (p (first n p)) (h (first n p) k) (first_hit n p k)))
    (λ (k : n ≤ first n p). omega arith)
    (cases_lt (first n p) n)

-- what a search found, or did not, among the numbers below the count
abbrev pub Found : ℕ → (ℕ → Bool) → Option ℕ → Type 0
Found n p r =
    MatchOption r ((k : ℕ) → 0 ≤ k → k < n → p k ≡ false)
    (λ i. (0 ≤ i) × (i < n) × (p i ≡ true) × ((k : ℕ) → 0 ≤ k → k < i → p k ≡ false))

pub first_of : (n : ℕ) (p : ℕ → Bool) (r : Option ℕ) → Found n p r → unwrap_or r n ≡ first n p
first_of n p None m = sym (first_past n p (λ d l. m d (omega arith) l))
first_of n p (Some i) m = sym (first_is n p i m.1 m.2 (λ d l. m.3 d (omega arith) l))
