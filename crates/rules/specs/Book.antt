-- The numbers that are kept of a table, and their start.
use Rattle.std.specs.Prelude.{ℕ, cond, List, replicate, ℤ, Some, None, slice_index_or}
use Rattle.components.specs.Below.{first}
use Rattle.components.specs.Inside.{inside}
use Rattle.components.specs.Nodes.{nodes, components, in_component, lowest_of, component_at}
use Rattle.rules.specs.Choosing.{tabulate}
use Rattle.rules.specs.Setting.{Setting, bottom, top}
use Rattle.rules.specs.declared.exit.Exit.{Exit}
use Rattle.rules.specs.declared.exit.Exit.TheVariants.{Stay, Leave}

pub record Book : Type 0 where
  -- of each state: its number in the vector t of its component, and its recorded choice; 0 at a lone state
  pub vector : List ℕ
  pub recorded : List ℕ
  -- of each component: bounds of what staying in it earns
  pub lo : List ℤ
  pub hi : List ℤ
  -- of each node: the bounds, and how the plan goes on
  pub x : List ℤ
  pub y : List ℤ
  pub plan : List Exit

abbrev pub exit_at : List Exit → ℕ → Exit
exit_at xs v = slice_index_or xs v Stay

-- vectors are 0, each state of a component records its first inside choice, bounds are as wide as the rewards;
-- the plan of a component is to stay, and that of a lone state its choice 0
unfoldable pub start : Setting → Book
start M =
    let T = M.table in
    record {
      vector = replicate T.states 0;
      recorded = tabulate T.states (λ s. cond (in_component T s) (first (T.choices s) (inside T s)) 0);
      lo = replicate (components T) (bottom M);
      hi = replicate (components T) (top M);
      x = replicate (nodes T) (top M);
      y = replicate (nodes T) (bottom M);
      plan = tabulate (nodes T) (λ v. elim (component_at T v) [ Some i ↦ Stay | None ↦ Leave (lowest_of T v) 0 ]);
    }
