use Rattle.std.proofs.Common.{◌≡◌}
use Rattle.rules.specs.Setting.{setting_of}
use Rattle.rules.specs.Sweep.{updates}
use Rattle.book.specs.Desks.{desk_table, desk_book}
use Rattle.book.proofs.Sweeps.{quiet}
use Rattle.book.proofs.desk.Desk.sweep_once.Given as goal

-- the nodes so far are updated
abbrev pub invariant-loop-node : goal.invariant-loop-node
invariant-loop-node l =
    (desk_book l.self ≡ updates (setting_of (desk_table l.initial.self)) l.node (desk_book l.initial.self))
    × (desk_table l.self ≡ desk_table l.initial.self)
    × (l.quiet ≡ quiet (setting_of (desk_table l.initial.self)) (desk_book l.initial.self) l.node)
