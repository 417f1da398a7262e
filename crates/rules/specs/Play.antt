-- The plan of a book: the choice that each state plays.
use Rattle.std.specs.Prelude.{ℕ, suc, Bool, cond, ◌&&◌, ◌==◌, nat_eq}
use Rattle.table.specs.Table.{Table, successor}
use Rattle.components.specs.Below.{any, first}
use Rattle.components.specs.Inside.{inside}
use Rattle.components.specs.Nodes.{node_of}
use Rattle.rules.specs.Choosing.{at}
use Rattle.rules.specs.Layers.{level}
use Rattle.rules.specs.Book.{Book, exit_at}
use Rattle.rules.specs.declared.exit.Exit.TheVariants.{Stay, Leave}

-- the choice c of s has a branch into p
abbrev pub enters : Table → (ℕ → Bool) → ℕ → ℕ → Bool
enters T p s c = any (T.branches s c) (λ b. p (successor T s c b))

-- some inside choice of s has one
abbrev pub inward : Table → (ℕ → Bool) → ℕ → Bool
inward T p s = any (T.choices s) (λ c. inside T s c && enters T p s c)

-- the steps from s to t, counted in fewest inside branches: the least such number up to that of the states, or one more if there is none
unfoldable pub distance : Table → ℕ → ℕ → ℕ
distance T t s = level T.states (λ u. nat_eq u t) (inward T) s

-- the first inside choice of s with a branch to a state one step nearer to t
unfoldable pub toward : Table → ℕ → ℕ → ℕ
toward T t s = first (T.choices s) (λ c. inside T s c && enters T (λ u. nat_eq (suc (distance T t u)) (distance T t s)) s c)

-- where the plan stays a state plays its recorded choice; where it leaves by choice c of state t,
-- t plays c, and any other state of the node goes toward t
unfoldable pub play : Table → Book → ℕ → ℕ
play T B s =
    elim (exit_at B.plan (node_of T s)) [
      | Stay ↦ at B.recorded s
      | Leave t c ↦ cond (s == t) c (toward T t s)
    ]
