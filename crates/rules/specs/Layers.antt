-- How many steps away from a goal each number is.
use Rattle.std.specs.Prelude.{ℕ, zero, suc, Bool, ◌||◌}
use Rattle.components.specs.Below.{first}

-- what is at most k steps from the goal; `back P` is what has a step into P
unfoldable pub layer : (ℕ → Bool) → ((ℕ → Bool) → ℕ → Bool) → ℕ → ℕ → Bool
layer goal back zero s = goal s
layer goal back (suc k) s = layer goal back k s || back (layer goal back k) s

-- the least such k up to n, or n + 1 if there is none
unfoldable pub level : ℕ → (ℕ → Bool) → ((ℕ → Bool) → ℕ → Bool) → ℕ → ℕ
level n goal back s = first (suc n) (λ k. layer goal back k s)
