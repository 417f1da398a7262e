-- What a table is taken apart into.
use Rattle.std.specs.Prelude.{◌≡◌, ℕ, ◌*◌, ◌<◌, Bool, false, ◌&&◌, length, None, vec_items, vec_len, Option, nat_lt, slice_index, slice_index_or}
use Rattle.table.specs.Table.{Table}
use Rattle.table.specs.Limits.{Lawful}
use Rattle.components.specs.EndComponent.{Choice}
use Rattle.components.specs.Inside.{inside}
use Rattle.components.specs.Nodes.{nodes, node_of, components, component_at}
use Rattle.components.specs.Law.{ComponentsLaw}
use Rattle.decomposition.specs.Flags.{flag_at}
use Rattle.decomposition.specs.declared.parts.Parts.{Parts}

-- what the parts say of a choice, of a state and of a node
abbrev pub inside_in : Parts → ℕ → ℕ → Bool
inside_in p s c = nat_lt c 16 && flag_at (vec_items p.inside) s c

abbrev pub node_in : Parts → ℕ → ℕ
node_in p s = slice_index (vec_items p.node) s

abbrev pub component_in : Parts → ℕ → Option ℕ
component_in p v = slice_index_or (vec_items p.component) v None

-- the parts are those of the definitions, and all that is true of these is true of them
pub record Decomposed (T : Table) (p : Parts) : Type 0 where
  pub lawful : Lawful T
  pub inside_size : length (vec_items p.inside) ≡ 16 * T.states
  pub inside_is : (s c : ℕ) → Choice T s c → inside_in p s c ≡ inside T s c
  pub none_outside : (s c : ℕ) → ¬ Choice T s c → inside_in p s c ≡ false
  pub node_size : length (vec_items p.node) ≡ T.states
  pub node_is : (s : ℕ) → s < T.states → node_in p s ≡ node_of T s
  pub nodes_are : vec_len p.component ≡ nodes T
  pub component_is : (v : ℕ) → v < nodes T → component_in p v ≡ component_at T v
  pub components_are : p.components ≡ components T
  pub law : ComponentsLaw T
