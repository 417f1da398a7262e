use Rattle.std.proofs.Common.{◌≡◌, ◌+◌, ◌-◌}
use Rattle.rules.specs.Setting.{setting_of}
use Rattle.rules.specs.Refine.{refine}
use Rattle.book.specs.Desks.{desk_table, desk_book}
use Rattle.book.proofs.desk.Desk.refine_steps.Given as goal

-- the steps that are left lead to what all of them lead to
abbrev pub invariant-loop-made : goal.invariant-loop-made
invariant-loop-made l =
    ((refine (setting_of (desk_table l.initial.self)) l.component (l.steps - l.made) l.width (desk_book l.self)).book
    ≡ (refine (setting_of (desk_table l.initial.self)) l.component l.steps l.width (desk_book l.initial.self)).book)
    × (l.made + (refine (setting_of (desk_table l.initial.self)) l.component (l.steps - l.made) l.width (desk_book l.self)).made
    ≡ (refine (setting_of (desk_table l.initial.self)) l.component l.steps l.width (desk_book l.initial.self)).made)
    × (desk_table l.self ≡ desk_table l.initial.self)
