-- What loading a model gives.
use Rattle.std.specs.Prelude.{◌≡◌, ℕ, ◌<◌, ℤ, ◌≤ℤ◌, Some}
use Rattle.table.specs.Table.{Table}
use Rattle.table.specs.Limits.{Lawful}
use Rattle.table.specs.Walk.{fault_of}
use Rattle.table.specs.declared.fault.Fault.{Fault}
use Rattle.model.specs.Held.{table_of}
use Rattle.model.specs.declared.model.Model.{Model}

-- r is the least reward of the table: a choice earns it, and none earns less
pub record LeastReward (T : Table) (r : ℤ) : Type 0 where
  pub earned : (s : ℕ) × (c : ℕ) × (s < T.states) × (c < T.choices s) × (T.reward s c ≡ r)
  pub bound : (s c : ℕ) → s < T.states → c < T.choices s → r ≤ℤ T.reward s c

-- r is the largest reward of the table
pub record LargestReward (T : Table) (r : ℤ) : Type 0 where
  pub earned : (s : ℕ) × (c : ℕ) × (s < T.states) × (c < T.choices s) × (T.reward s c ≡ r)
  pub bound : (s c : ℕ) → s < T.states → c < T.choices s → T.reward s c ≤ℤ r

-- the model of a lawful table: the table at every place of it, and its least and largest reward
pub record Loaded (T : Table) (m : Model) : Type 0 where
  pub lawful : Lawful T
  pub same : table_of m ≡ T
  pub least : LeastReward T m.least
  pub largest : LargestReward T m.largest

-- a load is refused with the first broken limit on the walk, and leaves what there was
abbrev pub StaysAt : {A : Type 0} → Table → A → A → Fault → Type 0
StaysAt T old new e = (fault_of T ≡ Some e) × (new ≡ old)
