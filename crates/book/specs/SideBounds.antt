-- What a sweep reads: the bounds of both sides.
use Rattle.std.specs.Prelude.{ℕ, ℤ}
use Rattle.table.specs.Table.{Table}
use Rattle.horizon.specs.Means.{round_down, round_up}
use Rattle.rules.specs.Setting.{Setting, setting_of}
use Rattle.rules.specs.Candidates.{mean_of}
use Rattle.book.specs.Layouts.{layout_table}
use Rattle.book.specs.declared.side_bounds.SideBounds.{SideBounds}

-- the table of its layout
abbrev pub bounds_table : SideBounds → Table
bounds_table b = layout_table b.layout.now

abbrev pub bounds_setting : SideBounds → Setting
bounds_setting b = setting_of (bounds_table b)

-- the means of the numbers after a choice, on either side
abbrev pub upper_means : SideBounds → ℕ → ℕ → ℤ
upper_means b = mean_of (bounds_setting b) round_up b.x.now

abbrev pub lower_means : SideBounds → ℕ → ℕ → ℤ
lower_means b = mean_of (bounds_setting b) round_down b.y.now
