use Rattle.std.proofs.Common.{◌≡◌, ℕ, ◌+◌, ◌<◌, eqb, false, drop, filter}
use Rattle.std.specs.List.{range_with_len}
use Rattle.components.specs.Nodes.{node_of}
use Rattle.rules.specs.Play.{distance}
use Rattle.book.specs.Layouts.{layout_table}
use Rattle.book.proofs.Distances.{Partly}
use Rattle.book.proofs.play.measure.Given as goal

-- states are marked up to the round
abbrev pub invariant-loop-round : goal.invariant-loop-round
invariant-loop-round l = Partly (layout_table l.layout) l.node l.target l.round 0 l.distances

-- states below s are marked up to the next round, and if `further` is false none of them is that far; the members that are left are the states of the node from s on
abbrev pub invariant-loop-state : goal.invariant-loop-state
invariant-loop-state l =
    (s : ℕ) × (m : ℕ) × (s + m ≡ (layout_table l.layout).states)
    × (drop l.state-index l.members ≡ filter (λ u. eqb (node_of (layout_table l.layout) u) l.node) (range_with_len s m))
    × Partly (layout_table l.layout) l.node l.target l.round s l.distances
    × (l.further ≡ false → (u : ℕ) → u < s → node_of (layout_table l.layout) u ≡ l.node
    → distance (layout_table l.layout) l.target u ≡ l.round + 1 → ⊥)
