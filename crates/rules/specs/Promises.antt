-- What holds of every book that changes lead to from the start: it is sound, so its bounds hold, and they only tighten until a close.
use Rattle.std.specs.Prelude.{ℕ, ◌^◌, ◌<◌, List, ◌∷◌, ℤ, pos, ◌+ℤ◌, ◌-ℤ◌, ◌*ℤ◌, ◌≤ℤ◌}
use Rattle.table.specs.Limits.{Lawful}
use Rattle.horizon.specs.Strategies.{Strategy, StatesOnly, Names, PlanNames, follow, scaled_reward}
use Rattle.horizon.specs.Potential.{constant}
use Rattle.components.specs.Nodes.{node_of, components}
use Rattle.rules.specs.Choosing.{at_z}
use Rattle.rules.specs.Setting.{Setting, least_reward, largest_reward}
use Rattle.rules.specs.Book.{Book, start}
use Rattle.rules.specs.Refine.{refine}
use Rattle.rules.specs.Sweep.{sweeps}
use Rattle.rules.specs.Play.{play}
use Rattle.rules.specs.Sound.{Sound}
use Rattle.rules.specs.Runs.{Change, refines, sweeping, changed, after}

-- U and L of a state: those of its node
abbrev pub upper_at : Setting → Book → ℕ → ℤ
upper_at M B s = at_z B.x (node_of M.table s)

abbrev pub lower_at : Setting → Book → ℕ → ℤ
lower_at M B s = at_z B.y (node_of M.table s)

-- C = H + (F × (rmax - rmin) + H) × (W + W² + … + W^n)
abbrev pub excess : Setting → ℕ
excess M =
    let T = M.table in
    constant T.denominator M.scale T.states M.cap (least_reward T) (largest_reward T)

-- no strategy over any horizon beats the upper bound by more than C: F × V ≤ W^N × (N × U + C)
abbrev pub UpperHolds : Setting → Book → Type 0
UpperHolds M B = (σ : Strategy) → Names M.table σ → (N s : ℕ) (past : List ℕ) → StatesOnly M.table (s ∷ past)
    → (pos M.scale *ℤ scaled_reward M.table σ N s past)
    ≤ℤ (pos (M.table.denominator ^ N) *ℤ ((pos N *ℤ upper_at M B s) +ℤ pos (excess M)))

-- the plan names choices, and over every horizon it earns at least the lower bound less C: W^N × (N × L - C) ≤ F × V
pub record LowerHolds (M : Setting) (B : Book) : Type 0 where
  pub names : PlanNames M.table (play M.table B)
  pub earns : (N s : ℕ) (past : List ℕ) → s < M.table.states
      → (pos (M.table.denominator ^ N) *ℤ ((pos N *ℤ lower_at M B s) -ℤ pos (excess M)))
      ≤ℤ (pos M.scale *ℤ scaled_reward M.table (follow (play M.table B)) N s past)

-- no bound of B is wider than that of A: of a state or of a component
pub record Tighter (M : Setting) (A B : Book) : Type 0 where
  pub upper : (s : ℕ) → s < M.table.states → upper_at M B s ≤ℤ upper_at M A s
  pub lower : (s : ℕ) → s < M.table.states → lower_at M A s ≤ℤ lower_at M B s
  pub hi : (k : ℕ) → k < components M.table → at_z B.hi k ≤ℤ at_z A.hi k
  pub lo : (k : ℕ) → k < components M.table → at_z A.lo k ≤ℤ at_z B.lo k

-- a book after any list of changes from the start: its bounds hold, and until the next close they only tighten
pub record Promises (M : Setting) : Type 0 where
  pub upper : (changes : List Change) → UpperHolds M (after M (start M) changes)
  pub lower : (changes : List Change) → LowerHolds M (after M (start M) changes)
  -- bounds only tighten until the next close
  pub refining : (changes : List Change) (k n width : ℕ)
      → Tighter M (after M (start M) changes) (changed M (refines k n width) (after M (start M) changes))
  pub sweeps : (changes : List Change) (n : ℕ)
      → Tighter M (after M (start M) changes) (changed M (sweeping n) (after M (start M) changes))

-- for every lawful table, scale and cap
abbrev pub EveryBook : Type 0
EveryBook = (M : Setting) → Lawful M.table → Promises M

-- one step of any longer history: the start is sound, what is done with a sound book leaves a sound book, and the bounds of a sound book hold
pub record SoundKept (M : Setting) : Type 0 where
  pub starts : Sound M (start M)
  pub refined : (k n width : ℕ) → k < components M.table → (B : Book) → Sound M B → Sound M (refine M k n width B).book
  pub swept : (n : ℕ) (B : Book) → Sound M B → Sound M (sweeps M n B).book
  pub changes : (c : Change) (B : Book) → Sound M B → Sound M (changed M c B)
  pub upper : (B : Book) → Sound M B → UpperHolds M B
  pub lower : (B : Book) → Sound M B → LowerHolds M B
  pub refining : (k n width : ℕ) → k < components M.table → (B : Book) → Sound M B → Tighter M B (refine M k n width B).book
  pub sweeping : (n : ℕ) (B : Book) → Sound M B → Tighter M B (sweeps M n B).book

-- for every lawful table, scale and cap
abbrev pub EverySound : Type 0
EverySound = (M : Setting) → Lawful M.table → SoundKept M
