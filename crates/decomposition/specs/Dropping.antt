-- What a pass does to a set of choices that is held as flags.
use Rattle.std.specs.Prelude.{◌≡◌, ℕ, ◌+◌, ◌*◌, ◌<◌, ◌≤◌, Bool, false, not, ◌&&◌, ◌⊎◌, List, ◌≢◌, slice_index_or}
use Rattle.table.specs.Table.{Table}
use Rattle.components.specs.Below.{any}
use Rattle.components.specs.Inside.{pass}
use Rattle.decomposition.specs.Flags.{flag_at, Flagged}
use Rattle.decomposition.specs.Marking.{leads_back}

-- the choice c of s is in the set and does not lead back: a pass drops it
abbrev pub drops : Table → List (List ℕ) → List Bool → ℕ → ℕ → Bool
drops T rows flags s c = flag_at flags s c && not (leads_back T rows s c)

-- the choice c of s is dropped unless it leads back; changed says whether it was
pub record DroppedChoice (T : Table) (rows : List (List ℕ)) (s c : ℕ) (old new : List Bool) (changed : Bool) : Type 0 where
  pub here : flag_at new s c ≡ (flag_at old s c && leads_back T rows s c)
  pub other : (i : ℕ) → (i ≢ 16 * s + c) → slice_index_or new i false ≡ slice_index_or old i false
  pub said : changed ≡ drops T rows old s c
  pub still : changed ≡ false → new ≡ old

-- the same for the choices of s before k
pub record DroppedState (T : Table) (rows : List (List ℕ)) (s k : ℕ) (old new : List Bool) (changed : Bool) : Type 0 where
  pub here : (c : ℕ) → c < k → flag_at new s c ≡ (flag_at old s c && leads_back T rows s c)
  pub other : (i : ℕ) → (i < 16 * s) ⊎ (16 * s + k ≤ i) → slice_index_or new i false ≡ slice_index_or old i false
  pub said : changed ≡ any k (drops T rows old s)
  pub still : changed ≡ false → new ≡ old

-- the same for the choices of the states before k
pub record DroppedAll (T : Table) (rows : List (List ℕ)) (k : ℕ) (old new : List Bool) (changed : Bool) : Type 0 where
  pub here : (s c : ℕ) → s < k → c < T.choices s → flag_at new s c ≡ (flag_at old s c && leads_back T rows s c)
  pub other : (i : ℕ) → 16 * k ≤ i → slice_index_or new i false ≡ slice_index_or old i false
  pub said : changed ≡ any k (λ s. any (T.choices s) (drops T rows old s))
  pub still : changed ≡ false → new ≡ old

-- one pass over the set, and whether it dropped a choice
pub record Passed (T : Table) (old new : List Bool) (changed : Bool) : Type 0 where
  pub kept : Flagged T new (pass T (flag_at old))
  pub said : changed ≡ any T.states (λ s. any (T.choices s) (λ c. flag_at old s c && not (flag_at new s c)))
  pub still : changed ≡ false → new ≡ old
