use Rattle.std.proofs.Common.{◌≡◌, ℕ, ◌<◌, get_or}
use Rattle.rules.specs.declared.exit.Exit.TheVariants.{Stay}
use Rattle.book.specs.Layouts.{layout_table}
use Rattle.book.specs.Starts.{first_exit}
use Rattle.book.proofs.start.plan_first.Given as goal

-- the nodes so far are planned
abbrev pub invariant-loop-node : goal.invariant-loop-node
invariant-loop-node l = (k : ℕ) → k < l.node → get_or l.plan k Stay ≡ first_exit (layout_table l.layout) k
