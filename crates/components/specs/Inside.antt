-- The inside choices of a table, as they compute: from all choices, passes drop each choice
-- with a successor from which its state is not reached any more.
use Rattle.std.specs.Prelude.{ℕ, zero, suc, Bool, true, ◌&&◌, ◌||◌, ◌==◌, nat_eq}
use Rattle.table.specs.Sums.{sum_n}
use Rattle.table.specs.Table.{Table, successor}
use Rattle.components.specs.Below.{every, any, grid}
use Rattle.components.specs.EndComponent.{Choices}

-- a branch of a choice of B leads from s to t
abbrev pub leads : Table → Choices → ℕ → ℕ → Bool
leads T B s t = any (T.choices s) (λ c. B s c && any (T.branches s c) (λ b. nat_eq (successor T s c b) t))

-- s reaches t by choices of B, with states below k alone between them
unfoldable pub via : Table → Choices → ℕ → ℕ → ℕ → Bool
via T B zero = grid T.states (λ _. T.states) (λ s t. (s == t) || leads T B s t)
via T B (suc k) =
    let r = via T B k in
    grid T.states (λ _. T.states) (λ s t. r s t || (r s k && r k t))

-- s reaches t by choices of B
unfoldable pub reach : Table → Choices → ℕ → ℕ → Bool
reach T B = via T B T.states

-- the choices of B from whose every successor their state is reached by B
unfoldable pub pass : Table → Choices → Choices
pass T B =
    let r = reach T B in
    grid T.states T.choices (λ s c. B s c && every (T.branches s c) (λ b. r (successor T s c b) s))

-- what is left of all choices after k passes
unfoldable pub passes : Table → ℕ → Choices
passes T zero = grid T.states T.choices (λ s c. true)
passes T (suc k) = pass T (passes T k)

-- the inside choices: what is left after as many passes as there are choices
unfoldable pub inside : Table → Choices
inside T = passes T (sum_n T.states T.choices)
