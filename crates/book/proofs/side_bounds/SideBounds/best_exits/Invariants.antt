use Rattle.std.proofs.Common.{◌≡◌}
use Rattle.rules.specs.Sweep.{staying}
use Rattle.book.specs.SideBounds.{bounds_setting, upper_means, lower_means}
use Rattle.book.proofs.Exits.{over_members}
use Rattle.book.proofs.side_bounds.SideBounds.best_exits.Given as goal

-- the best after the members so far, on either side
abbrev pub invariant-loop-state : goal.invariant-loop-state
invariant-loop-state l =
    (l.upper ≡ over_members (bounds_setting l.self) (upper_means l.self) l.members (staying (bounds_setting l.self) l.self.hi.now l.node) l.state-index)
    × (l.lower ≡ over_members (bounds_setting l.self) (lower_means l.self) l.members (staying (bounds_setting l.self) l.self.lo.now l.node) l.state-index)
