use Rattle.std.proofs.Common.{◌≤◌, vec_items, vec_capacity}
use Rattle.decomposition.specs.Decomposed.{node_in}
use Rattle.book.specs.Grouped.{Grouped}
use Rattle.book.proofs.groups.group_states.Given as goal

-- the states of the nodes so far are listed, and the lists keep their room
abbrev pub invariant-loop-node : goal.invariant-loop-node
invariant-loop-node l =
    Grouped (node_in l.parts) l.states l.node (vec_items l.starts) (vec_items l.members)
    × (256 ≤ vec_capacity l.members) × (257 ≤ vec_capacity l.starts)
