-- Tables written as lists, and what a table is taken apart into, as lists: for worked tables, whose parts follow by computation.
-- Branches are written (successor, weight).
use Rattle.std.specs.Prelude.{ℕ, Bool, List, [], map, length, get_or, ℤ, pos, Option, slice_index_or}
use Rattle.std.specs.List.{range_with_len}
use Rattle.table.specs.Table.{Table}
use Rattle.components.specs.Inside.{inside}
use Rattle.components.specs.Nodes.{nodes, node_of, component_at}
use Rattle.components.specs.Depth.{depth}

-- a table from its states, each a list of choices: reward and branches
abbrev pub rows : ℕ → List (List (ℤ × List (ℕ × ℕ))) → Table
rows w states = record {
  states = length states;
  denominator = w;
  choices = λ s. length (slice_index_or states s []);
  reward = λ s c. (get_or {A = ℤ × List (ℕ × ℕ)} (slice_index_or states s []) c (pos 0, [])).0;
  branches = λ s c. length (get_or {A = ℤ × List (ℕ × ℕ)} (slice_index_or states s []) c (pos 0, [])).1;
  branch = λ s c b. slice_index_or (get_or {A = ℤ × List (ℕ × ℕ)} (slice_index_or states s []) c (pos 0, [])).1 b (0, 0);
}

-- what a table is taken apart into
pub record WorkedParts : Type 0 where
  -- for each state, whether each choice is inside
  pub inside : List (List Bool)
  -- for each state its node
  pub node : List ℕ
  -- for each node the component that it is, if any
  pub component : List (Option ℕ)
  -- for each node its depth
  pub depth : List ℕ

abbrev pub parts_of : Table → WorkedParts
parts_of T = record {
  inside = map (λ s. map (inside T s) (range_with_len 0 (T.choices s))) (range_with_len 0 T.states);
  node = map (node_of T) (range_with_len 0 T.states);
  component = map (component_at T) (range_with_len 0 (nodes T));
  depth = map (depth T) (range_with_len 0 (nodes T));
}
