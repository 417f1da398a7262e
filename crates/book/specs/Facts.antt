-- What the lists of a layout hold of a table.
use Rattle.std.specs.Prelude.{◌≡◌, ℕ, ◌+◌, ◌-◌, ◌*◌, ◌<◌, ◌≤◌, Bool, List, map, length, take, drop, Some, None, vec_items, Option, slice_index, slice_index_or}
use Rattle.table.specs.Table.{Table}
use Rattle.components.specs.Inside.{inside}
use Rattle.components.specs.Nodes.{nodes, node_of, components, component_at}
use Rattle.model.specs.Held.{table_of}
use Rattle.model.specs.declared.model.Model.{Model}
use Rattle.decomposition.specs.Flags.{Flagged}
use Rattle.book.specs.Grouped.{states_at}
use Rattle.book.specs.Listed.{link_of}
use Rattle.book.specs.declared.lists.Lists.{Lists}

-- the flag of each choice, 16 to a state, says whether it is inside
abbrev pub InsidesAt : Table → List Bool → Type 0
InsidesAt T flags = Flagged T flags (inside T)

-- the node of each state
abbrev pub NodesAt : Table → List ℕ → Type 0
NodesAt T node = (s : ℕ) → s < T.states → slice_index node s ≡ node_of T s

-- where the states of each node begin: in rising order, within the members
abbrev pub StartsRise : Table → List ℕ → Type 0
StartsRise T starts = (v : ℕ) → v < nodes T → slice_index starts v ≤ slice_index starts (v + 1)

abbrev pub StartsWithin : Table → List ℕ → List ℕ → Type 0
StartsWithin T starts members = (v : ℕ) → v < nodes T → slice_index starts (v + 1) ≤ length members

-- the states of a node, rising
abbrev pub node_states : Table → ℕ → List ℕ
node_states T v = states_at (node_of T) T.states v

-- the same among the members, from where those of the node begin
abbrev pub MembersAt : Table → List ℕ → List ℕ → Type 0
MembersAt T starts members =
    (v : ℕ) → v < nodes T
    → take (slice_index starts (v + 1) - slice_index starts v) (drop (slice_index starts v) members) ≡ node_states T v

-- the component that each node is, if any
abbrev pub ComponentsAt : Table → List (Option ℕ) → Type 0
ComponentsAt T component = (v : ℕ) → v < nodes T → slice_index_or component v None ≡ component_at T v

-- the node of each component
abbrev pub HomesWithin : Table → List ℕ → Type 0
HomesWithin T home = (k : ℕ) → k < components T → slice_index home k < nodes T

abbrev pub HomesAt : Table → List ℕ → Type 0
HomesAt T home = (k : ℕ) → k < components T → component_at T (slice_index home k) ≡ Some k

-- the lists are those of the model's table
pub record ListsHold (m : Model) (l : Lists) : Type 0 where
  pub inside_size : length (vec_items l.parts.inside) ≡ 16 * (table_of m).states
  pub insides : InsidesAt (table_of m) (vec_items l.parts.inside)
  pub node_size : length (vec_items l.parts.node) ≡ (table_of m).states
  pub node_at : NodesAt (table_of m) (vec_items l.parts.node)
  pub component_size : length (vec_items l.parts.component) ≡ nodes (table_of m)
  pub component_is : ComponentsAt (table_of m) (vec_items l.parts.component)
  pub links_are : vec_items l.links ≡ map (link_of (slice_index (vec_items l.parts.node))) (vec_items m.rows.branches)
  pub start_size : length (vec_items l.starts) ≡ nodes (table_of m) + 1
  pub start_rises : StartsRise (table_of m) (vec_items l.starts)
  pub start_within : StartsWithin (table_of m) (vec_items l.starts) (vec_items l.members)
  pub members_at : MembersAt (table_of m) (vec_items l.starts) (vec_items l.members)
  pub home_size : length (vec_items l.home) ≡ components (table_of m)
  pub home_within : HomesWithin (table_of m) (vec_items l.home)
  pub home_at : HomesAt (table_of m) (vec_items l.home)
