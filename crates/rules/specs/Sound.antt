-- What makes the bounds of a book hold: certificates of the components, and what x, y and the plan keep.
use Rattle.std.specs.Prelude.{◌≡◌, ℕ, ◌*◌, ◌<◌, ◌≤◌, true, false, ◌⊎◌, ℤ, pos, ◌+ℤ◌, ◌*ℤ◌, ◌≤ℤ◌, ◌<ℤ◌}
use Rattle.table.specs.Table.{successor}
use Rattle.horizon.specs.Sums.{branch_sum_n, branch_sum_z}
use Rattle.components.specs.Inside.{inside}
use Rattle.components.specs.Nodes.{nodes, node_of, in_component, component_of}
use Rattle.components.specs.Depth.{Leaving}
use Rattle.rules.specs.Choosing.{at, at_z}
use Rattle.rules.specs.Setting.{Setting}
use Rattle.rules.specs.Book.{Book, exit_at}
use Rattle.rules.specs.Fit.{Fit}
use Rattle.rules.specs.declared.exit.Exit.{Exit}
use Rattle.rules.specs.declared.exit.Exit.TheVariants.{Stay, Leave}

-- u certifies hi: W × F × reward + Σ weight × u(successor) ≤ W × (hi + u(s)) for each inside choice
pub record UpperCertified (M : Setting) (hi : ℕ → ℤ) (u : ℕ → ℕ) : Type 0 where
  pub capped : (s : ℕ) → s < M.table.states → u s ≤ M.cap
  pub bound : (s c : ℕ) → inside M.table s c ≡ true
      → ((pos (M.table.denominator * M.scale) *ℤ M.table.reward s c) +ℤ pos (branch_sum_n M.table s c u))
      ≤ℤ (pos M.table.denominator *ℤ (hi (component_of M.table s) +ℤ pos (u s)))

-- v certifies lo for the recorded choices r, which are inside: W × (lo + v(s)) ≤ W × F × reward + Σ weight × v(successor)
pub record LowerCertified (M : Setting) (lo : ℕ → ℤ) (r v : ℕ → ℕ) : Type 0 where
  pub capped : (s : ℕ) → s < M.table.states → v s ≤ M.cap
  pub stays : (s : ℕ) → s < M.table.states → in_component M.table s ≡ true → inside M.table s (r s) ≡ true
  pub bound : (s : ℕ) → s < M.table.states → in_component M.table s ≡ true
      → (pos M.table.denominator *ℤ (lo (component_of M.table s) +ℤ pos (v s)))
      ≤ℤ ((pos (M.table.denominator * M.scale) *ℤ M.table.reward s (r s)) +ℤ pos (branch_sum_n M.table s (r s) v))

-- x is a supersolution: not below hi, nor below the mean of x after any leaving choice
pub record Supersolution (M : Setting) (hi x : ℕ → ℤ) : Type 0 where
  pub stay : (s : ℕ) → s < M.table.states → in_component M.table s ≡ true
      → hi (component_of M.table s) ≤ℤ x (node_of M.table s)
  -- Σ weight × x(node of the successor) ≤ W × x(node of s)
  pub leave : (s c : ℕ) → s < M.table.states → c < M.table.choices s → inside M.table s c ≡ false
      → branch_sum_z M.table s c (λ u. x (node_of M.table u)) ≤ℤ (pos M.table.denominator *ℤ x (node_of M.table s))

-- the choice c of t leaves the node v, and the mean of y after it is not below y(v)
pub record LeavesFor (M : Setting) (y : ℕ → ℤ) (v t c : ℕ) : Type 0 where
  pub leaving : Leaving M.table v t c
  -- W × y(v) ≤ Σ weight × y(node of the successor)
  pub gain : (pos M.table.denominator *ℤ y v) ≤ℤ branch_sum_z M.table t c (λ u. y (node_of M.table u))

-- an exit of the node v is worth y(v) at least: staying in its component is worth lo
abbrev pub WorthOf : Setting → (ℕ → ℤ) → (ℕ → ℤ) → ℕ → Exit → Type 0
WorthOf M lo y v Stay = (s : ℕ) → s < M.table.states → node_of M.table s ≡ v
    → (in_component M.table s ≡ true) × (y v ≤ℤ lo (component_of M.table s))
WorthOf M lo y v (Leave t c) = LeavesFor M y v t c

-- y is a subsolution for the plan
abbrev pub Subsolution : Setting → (ℕ → ℤ) → (ℕ → ℤ) → (ℕ → Exit) → Type 0
Subsolution M lo y plan = (v : ℕ) → v < nodes M.table → WorthOf M lo y v (plan v)

-- the node u is ahead of v: its y is larger, or the same with an older stamp
abbrev pub Ahead : (ℕ → ℤ) → (ℕ → ℕ) → ℕ → ℕ → Type 0
Ahead y stamp u v = (y v <ℤ y u) ⊎ ((y u ≡ y v) × (stamp u < stamp v))

-- an exit that leaves v has a branch to a node that is ahead of v
abbrev pub Leads : Setting → (ℕ → ℤ) → (ℕ → ℕ) → ℕ → Exit → Type 0
Leads M y stamp v Stay = Unit {0}
Leads M y stamp v (Leave t c) =
    (b : ℕ) × (b < M.table.branches t c) × Ahead y stamp (node_of M.table (successor M.table t c b)) v

-- each plan that leaves leads ahead; all stamps are older than `fresh`
pub record Progress (M : Setting) (y : ℕ → ℤ) (plan : ℕ → Exit) (stamp : ℕ → ℕ) (fresh : ℕ) : Type 0 where
  pub older : (v : ℕ) → v < nodes M.table → stamp v < fresh
  pub leads : (v : ℕ) → v < nodes M.table → Leads M y stamp v (plan v)

pub record Sound (M : Setting) (B : Book) : Type 0 where
  pub fit : Fit M B
  pub upper : (u : ℕ → ℕ) × UpperCertified M (at_z B.hi) u
  pub lower : (v : ℕ → ℕ) × LowerCertified M (at_z B.lo) (at B.recorded) v
  pub over : Supersolution M (at_z B.hi) (at_z B.x)
  pub under : Subsolution M (at_z B.lo) (at_z B.y) (exit_at B.plan)
  pub progress : (stamp : ℕ → ℕ) × (fresh : ℕ) × Progress M (at_z B.y) (exit_at B.plan) stamp fresh
