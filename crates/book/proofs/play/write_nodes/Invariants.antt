use Rattle.std.proofs.Common.{◌≡◌, ℕ, ◌<◌, drop}
use Rattle.components.specs.Nodes.{node_of}
use Rattle.rules.specs.Book.{exit_at}
use Rattle.rules.specs.Choosing.{at}
use Rattle.book.specs.Layouts.{layout_table}
use Rattle.book.specs.Plays.{play_by}
use Rattle.book.proofs.play.write_nodes.Given as goal

-- the states of the nodes so far are written
abbrev pub invariant-loop-v : goal.invariant-loop-v
invariant-loop-v l =
    ((s : ℕ) → s < (layout_table l.layout).states → node_of (layout_table l.layout) s < l.v
    → at l.list s ≡ play_by (layout_table l.layout) l.recorded (exit_at l.plan (node_of (layout_table l.layout) s)) s)
    × (drop (layout_table l.layout).states l.list ≡ drop (layout_table l.layout).states l.initial.list)
