-- What is made before a table is taken apart.
use Rattle.std.specs.Prelude.{◌≡◌, true, [], replicate, vec_items}
use Rattle.decomposition.specs.declared.parts.Parts.{Parts}
use Rattle.decomposition.specs.declared.scratch.Scratch.{Scratch}

-- no choice, no state and no node, and so no component
pub record PartsOfNothing (p : Parts) : Type 0 where
  pub inside : vec_items p.inside ≡ []
  pub node : vec_items p.node ≡ []
  pub component : vec_items p.component ≡ []
  pub components : p.components ≡ 0

-- each choice is kept, 16 to each of 256 states, and none of the 256 bits of the 256 rows is set
pub record Unused (s : Scratch) : Type 0 where
  pub kept : vec_items s.kept.flags ≡ replicate 4096 true
  pub marks : vec_items s.square.rows ≡ replicate 256 (replicate 4 0)
