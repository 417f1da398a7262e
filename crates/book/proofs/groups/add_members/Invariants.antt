use Rattle.std.proofs.Common.{◌≡◌, ◌≤◌, ◌++◌, vec_items, vec_capacity}
use Rattle.decomposition.specs.Decomposed.{node_in}
use Rattle.book.specs.Grouped.{states_at}
use Rattle.book.proofs.groups.add_members.Given as goal

-- the members among the states so far are added, and the list keeps its room
abbrev pub invariant-loop-state : goal.invariant-loop-state
invariant-loop-state l =
    (vec_items l.members ≡ vec_items l.initial.members ++ states_at (node_in l.parts) l.state l.node)
    × (vec_capacity l.initial.members ≤ vec_capacity l.members)
