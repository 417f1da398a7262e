-- Order of integers, as tests.
use Rattle.std.proofs.Common.{◌≡◌, true, false, ℤ, ◌≤ℤ◌, ◌<ℤ◌, sym, ⊎_elim, arith}
use lib.Signed.{le_z, lt_z}
use borrow.Author.Differences.{true_is_le}
use Rattle.std.proofs.lemmas.Bool.{and_parts, and_from, cases_Bool}
use Rattle.horizon.specs.Ring.{lin}
use Rattle.rules.specs.Choosing.{eq_z}

pub le_self : (a : ℤ) → a ≤ℤ a
le_self a = omega (arith, lin)

pub eq_z_true : (a b : ℤ) → eq_z a b ≡ true → a ≡ b
eq_z_true a b e = let w = and_parts (le_z a b) (le_z b a) e in let p = w.0 in let q = w.1 in omega (arith, lin)

pub eq_z_from : (a b : ℤ) → a ≡ b → eq_z a b ≡ true
eq_z_from a b e = and_from (le_z a b) (le_z b a) (sym (true_is_le a b (omega (arith, lin)))) (sym (true_is_le b a (omega (arith, lin))))

pub lt_lt_z : (a b : ℤ) → a <ℤ b → lt_z a b ≡ true
lt_lt_z a b h =
    ⊎_elim (λ (e : lt_z a b ≡ true). e) (λ (e : lt_z a b ≡ false). let z : ⊥ = omega (arith, lin) in absurd z) (cases_Bool (lt_z a b))

pub le_lt_z : (a b : ℤ) → b ≤ℤ a → lt_z a b ≡ false
le_lt_z a b h =
    ⊎_elim (λ (e : lt_z a b ≡ true). let z : ⊥ = omega (arith, lin) in absurd z) (λ (e : lt_z a b ≡ false). e) (cases_Bool (lt_z a b))
