use Rattle.std.proofs.Common.{◌≡◌, drop}
use Rattle.book.specs.Layouts.{layout_table}
use Rattle.book.specs.Plays.{play_by}
use Rattle.book.proofs.Members.{Written}
use Rattle.book.proofs.play.Marked.write_node.Given as goal

-- the members so far are written, and nothing past the states is
abbrev pub invariant-loop-state : goal.invariant-loop-state
invariant-loop-state l =
    Written (layout_table l.self.layout.now) l.node l.members 0 (play_by (layout_table l.self.layout.now) l.recorded l.exit) l.state-index l.initial.list l.list
    × (drop (layout_table l.self.layout.now).states l.list ≡ drop (layout_table l.self.layout.now).states l.initial.list)
