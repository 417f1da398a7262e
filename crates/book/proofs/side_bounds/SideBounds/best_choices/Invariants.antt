use Rattle.std.proofs.Common.{◌≡◌}
use Rattle.rules.specs.Sweep.{over_choices}
use Rattle.book.specs.SideBounds.{bounds_setting, upper_means, lower_means}
use Rattle.book.proofs.side_bounds.SideBounds.best_choices.Given as goal

-- the best after the choices so far, on either side
abbrev pub invariant-loop-choice : goal.invariant-loop-choice
invariant-loop-choice l =
    (l.upper ≡ over_choices (bounds_setting l.self) (upper_means l.self) l.state l.choice l.initial.upper)
    × (l.lower ≡ over_choices (bounds_setting l.self) (lower_means l.self) l.state l.choice l.initial.lower)
