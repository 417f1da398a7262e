-- What the numbers of a book fit in: the lengths of the lists and the ranges of what they hold.
use Rattle.std.specs.Prelude.{◌≡◌, ℕ, ◌<◌, ◌≤◌, true, length, ℤ, ◌≤ℤ◌}
use Rattle.table.specs.Limits.{Lawful}
use Rattle.components.specs.Nodes.{nodes, node_of, components, states_of}
use Rattle.rules.specs.Choosing.{at, at_z}
use Rattle.rules.specs.Setting.{Setting, bottom, top}
use Rattle.rules.specs.Book.{Book, exit_at, start}
use Rattle.rules.specs.Refine.{step, refine}
use Rattle.rules.specs.Sweep.{update, sweep, sweeps}
use Rattle.rules.specs.declared.exit.Exit.{Exit}
use Rattle.rules.specs.declared.exit.Exit.TheVariants.{Stay, Leave}

-- two lists have a place for each state, two for each component, three for each node
pub record Lengths (M : Setting) (B : Book) : Type 0 where
  pub vector : length B.vector ≡ M.table.states
  pub recorded : length B.recorded ≡ M.table.states
  pub lo : length B.lo ≡ components M.table
  pub hi : length B.hi ≡ components M.table
  pub x : length B.x ≡ nodes M.table
  pub y : length B.y ≡ nodes M.table
  pub plan : length B.plan ≡ nodes M.table

-- no number of a vector is above H, and the least of each component is 0
pub record VectorFits (M : Setting) (t : ℕ → ℕ) : Type 0 where
  pub capped : (s : ℕ) → s < M.table.states → t s ≤ M.cap
  pub rooted : (k : ℕ) → k < components M.table
      → (s : ℕ) × (s < M.table.states) × (states_of M.table k s ≡ true) × (t s ≡ 0)

-- each state has a choice of its own recorded
abbrev pub RecordedFits : Setting → (ℕ → ℕ) → Type 0
RecordedFits M r = (s : ℕ) → s < M.table.states → r s < M.table.choices s

-- each of the first n numbers lies between F × rmin and F × rmax
abbrev pub Within : Setting → ℕ → (ℕ → ℤ) → Type 0
Within M n z = (i : ℕ) → i < n → (bottom M ≤ℤ z i) × (z i ≤ℤ top M)

-- an exit of the node v names a choice of a state of that node
abbrev pub ExitFits : Setting → ℕ → Exit → Type 0
ExitFits M v Stay = Unit {0}
ExitFits M v (Leave t c) = (t < M.table.states) × (node_of M.table t ≡ v) × (c < M.table.choices t)

abbrev pub PlanFits : Setting → (ℕ → Exit) → Type 0
PlanFits M plan = (v : ℕ) → v < nodes M.table → ExitFits M v (plan v)

pub record Fit (M : Setting) (B : Book) : Type 0 where
  pub lengths : Lengths M B
  pub vector : VectorFits M (at B.vector)
  pub recorded : RecordedFits M (at B.recorded)
  pub lo : Within M (components M.table) (at_z B.lo)
  pub hi : Within M (components M.table) (at_z B.hi)
  pub x : Within M (nodes M.table) (at_z B.x)
  pub y : Within M (nodes M.table) (at_z B.y)
  pub plan : PlanFits M (exit_at B.plan)

-- the start fits, and each step, update, refine and sweep keeps that, whatever else holds of the book
pub record FitKept (M : Setting) : Type 0 where
  pub starts : Fit M (start M)
  pub steps : (k : ℕ) → k < components M.table → (B : Book) → Fit M B → Fit M (step M k B)
  pub updates : (v : ℕ) (B : Book) → Fit M B → Fit M (update M v B)
  pub refines : (k n width : ℕ) → k < components M.table → (B : Book) → Fit M B → Fit M (refine M k n width B).book
  pub sweep : (B : Book) → Fit M B → Fit M (sweep M B)
  pub sweeps : (n : ℕ) (B : Book) → Fit M B → Fit M (sweeps M n B).book

-- for every lawful table, scale and cap
abbrev pub EveryFit : Type 0
EveryFit = (M : Setting) → Lawful M.table → FitKept M
