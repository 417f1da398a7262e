use Rattle.std.proofs.Common.{◌≡◌, ◌+◌, ◌-◌}
use Rattle.rules.specs.Setting.{setting_of}
use Rattle.rules.specs.Sweep.{sweeps}
use Rattle.book.specs.Desks.{desk_table, desk_book}
use Rattle.book.proofs.desk.Desk.sweep_times.Given as goal

-- the sweeps that are left lead to what all of them lead to
abbrev pub invariant-loop-made : goal.invariant-loop-made
invariant-loop-made l =
    ((sweeps (setting_of (desk_table l.initial.self)) (l.count - l.made) (desk_book l.self)).book
    ≡ (sweeps (setting_of (desk_table l.initial.self)) l.count (desk_book l.initial.self)).book)
    × (l.made + (sweeps (setting_of (desk_table l.initial.self)) (l.count - l.made) (desk_book l.self)).made
    ≡ (sweeps (setting_of (desk_table l.initial.self)) l.count (desk_book l.initial.self)).made)
    × (desk_table l.self ≡ desk_table l.initial.self)
