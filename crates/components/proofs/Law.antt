-- The law of every lawful table, put together.
use Rattle.std.proofs.Common.{◌≡◌, ℕ, ◌≤◌, arith}
use Rattle.table.specs.Table.{Table}
use Rattle.table.specs.Limits.{Lawful}
use Rattle.components.specs.Nodes.{nodes, components}
use Rattle.components.specs.Law.{EveryLawfulTable}
use Rattle.components.proofs.Components.{component_law, inside_law}
use Rattle.components.proofs.Nodes.{node_law}
use Rattle.components.proofs.Depth.{depth_law}

pub every_lawful_table : EveryLawfulTable
every_lawful_table T law = record {
  component = component_law T law;
  inside = inside_law T law;
  node = node_law T law;
  depth = depth_law T law;
}

-- how many nodes and components a table of n states has at most
pub nodes_within : (n : ℕ) (T : Table) → Lawful T → T.states ≡ n → (nodes T ≤ n) × (components T ≤ nodes T)
nodes_within n T law q = let w = node_law T law in let m = w.most in (omega arith, w.fewer)
