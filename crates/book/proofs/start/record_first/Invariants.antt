use Rattle.std.proofs.Common.{◌≡◌, ℕ, ◌<◌, get_or}
use Rattle.book.specs.Layouts.{layout_table}
use Rattle.book.specs.Starts.{first_inside}
use Rattle.book.proofs.start.record_first.Given as goal

-- the states so far are recorded
abbrev pub invariant-loop-state : goal.invariant-loop-state
invariant-loop-state l = (k : ℕ) → k < l.state → get_or l.recorded k 0 ≡ first_inside (layout_table l.layout) k
