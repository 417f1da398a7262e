-- Reachability as bits.
use Rattle.std.specs.Prelude.{◌≡◌, ℕ, zero, suc, ◌<◌, Bool, ◌&&◌, ◌||◌, List, ◌==◌, nat_eq}
use Rattle.table.specs.Table.{Table, successor}
use Rattle.components.specs.Below.{every, any}
use Rattle.components.specs.EndComponent.{Choices}
use Rattle.components.specs.Inside.{leads}
use Rattle.decomposition.specs.Bits.{bit_at}

-- the choice c of the state s has a branch to t
abbrev pub branch_to : Table → ℕ → ℕ → ℕ → Bool
branch_to T s c t = any (T.branches s c) (λ b. nat_eq (successor T s c b) t)

-- t is s, or a choice of the set leads from s to t
abbrev pub one_step : Table → Choices → ℕ → ℕ → Bool
one_step T A s t = s == t || leads T A s t

-- each successor of the choice c of s reaches s, by these bits
abbrev pub leads_back : Table → List (List ℕ) → ℕ → ℕ → Bool
leads_back T rows s c = every (T.branches s c) (λ b. bit_at rows (successor T s c b) s)

-- the rows of the states of a table: what r says of each two states
abbrev pub Shows : ℕ → List (List ℕ) → (ℕ → ℕ → Bool) → Type 0
Shows n rows r = (s t : ℕ) → s < n → t < n → bit_at rows s t ≡ r s t

-- r with the ways through the state k
abbrev pub through : (ℕ → ℕ → Bool) → ℕ → ℕ → ℕ → Bool
through r k s t = r s t || (r s k && r k t)

-- r closed under ways through the states below k, by Warshall's rule
unfoldable pub closure : (ℕ → ℕ → Bool) → ℕ → ℕ → ℕ → Bool
closure r zero = r
closure r (suc k) = through (closure r k) k
