-- What can be done with a book, and a book after a list of such changes.
use Rattle.std.specs.Prelude.{ℕ, cond, List, [], ◌∷◌, nat_lt}
use Rattle.components.specs.Nodes.{components}
use Rattle.rules.specs.Setting.{Setting}
use Rattle.rules.specs.Book.{Book, start}
use Rattle.rules.specs.Refine.{refine}
use Rattle.rules.specs.Sweep.{sweeps}

pub data Change : Type 0 where
  -- a component, at most so many steps, and a width
  refines : ℕ → ℕ → ℕ → Change
  -- at most so many sweeps
  sweeping : ℕ → Change
  closing : Change

-- a refine of a component that the table lacks changes nothing
unfoldable pub changed : Setting → Change → Book → Book
changed M (refines k n width) B = cond (nat_lt k (components M.table)) (refine M k n width B).book B
changed M (sweeping n) B = (sweeps M n B).book
changed M closing B = start M

-- from B on, the oldest change first
unfoldable pub after : Setting → Book → List Change → Book
after M B [] = B
after M B (c ∷ cs) = after M (changed M c B) cs
