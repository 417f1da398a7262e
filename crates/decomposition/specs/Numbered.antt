-- Nodes and components that have been numbered.
use Rattle.std.specs.Prelude.{◌≡◌, ℕ, ◌<◌, List, length, None, Option, slice_index, slice_index_or}
use Rattle.table.specs.Table.{Table}
use Rattle.components.specs.Below.{count}
use Rattle.components.specs.Nodes.{is_lowest, heads, node_of, component_at}

-- the nodes of the states before k are numbered, and so are the components among them
pub record Numbered (T : Table) (k : ℕ) (node : List ℕ) (component : List (Option ℕ)) (components : ℕ) : Type 0 where
  pub size : length node ≡ k
  pub nodes : length component ≡ count k (is_lowest T)
  pub counted : components ≡ count k (heads T)
  pub node_at : (s : ℕ) → s < k → slice_index node s ≡ node_of T s
  pub component_at : (v : ℕ) → v < count k (is_lowest T) → slice_index_or component v None ≡ component_at T v
