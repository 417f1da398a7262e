-- One more turn of each definition that counts up, and that a bound which is attained is the largest or the least.
use Rattle.std.proofs.Common.{◌≡◌, ℕ, ◌+◌, ◌<◌, Bool, true, ℤ, ◌≤ℤ◌, refl, add-one}
use Rattle.rules.specs.Setting.{Setting}
use Rattle.rules.specs.Book.{Book}
use Rattle.rules.specs.Choosing.{largest, smallest}
use Rattle.rules.specs.Sweep.{update, updates}
use Rattle.rules.proofs.Same.{largest_one, smallest_one, the_largest, the_smallest}

pub updates_more : (M : Setting) (n : ℕ) (B : Book) → updates M (n + 1) B ≡ update M n (updates M n B)
unfolding updates
updates_more M n B = rw add-one refl

module _ (n : ℕ) (p : ℕ → Bool) (f : ℕ → ℤ) (m : ℤ) (j : ℕ) (l : j < n) (q : p j ≡ true) (e : m ≡ f j) where
  pub largest_is : ((i : ℕ) → i < n → p i ≡ true → f i ≤ℤ m) → m ≡ largest n p f
  largest_is b = largest_one n p f m (largest n p f) (record { bounds = b; attained = (j, l, q, e) }) (the_largest n p f j l q)

  pub smallest_is : ((i : ℕ) → i < n → p i ≡ true → m ≤ℤ f i) → m ≡ smallest n p f
  smallest_is b = smallest_one n p f m (smallest n p f) (record { bounds = b; attained = (j, l, q, e) }) (the_smallest n p f j l q)
