-- What a copy of a part of a table holds.
use Rattle.std.specs.Prelude.{◌≡◌, ℕ, ◌+◌, ◌*◌, ◌<◌, ◌≤◌, List, ◌++◌, map, length, ℤ, slice_index_or}
use Rattle.std.specs.List.{range_with_len, All}
use Rattle.table.specs.Table.{Table, ZeroOutside}
use Rattle.sources.specs.Rows.{no_state, no_choice}
use Rattle.sources.specs.declared.list.StateRow.{StateRow}
use Rattle.sources.specs.declared.list.ChoiceRow.{ChoiceRow}

-- new is old with more at its end
pub record Extends {X : Type 0} (old new : List X) : Type 0 where
  pub more : List X
  pub is : new ≡ old ++ more

-- new is old with the branches of a choice at its end
abbrev pub BranchesCopied : Table → ℕ → ℕ → List (ℕ × ℕ) → List (ℕ × ℕ) → Type 0
BranchesCopied T s c old new = new ≡ old ++ map (T.branch s c) (range_with_len 0 (T.branches s c))

-- the row is that of a choice
pub record HoldsChoice (T : Table) (s c : ℕ) (row : ChoiceRow) (branches : List (ℕ × ℕ)) : Type 0 where
  pub reward : row.reward ≡ T.reward s c
  pub count : row.count ≡ T.branches s c
  pub within : row.first + T.branches s c ≤ length branches
  pub at : (b : ℕ) → b < T.branches s c → slice_index_or branches (row.first + b) (0, 0) ≡ T.branch s c b

-- the rows from first on are those of the first k choices of a state
pub record HoldsChoices (T : Table) (s k first : ℕ) (choices : List ChoiceRow) (branches : List (ℕ × ℕ)) : Type 0 where
  pub within : first + k ≤ length choices
  pub at : (c : ℕ) → c < k → HoldsChoice T s c (slice_index_or choices (first + c) no_choice) branches

-- the choices of a state have been added at the ends
pub record ChoicesCopied (T : Table) (s k : ℕ) (old_c new_c : List ChoiceRow) (old_b new_b : List (ℕ × ℕ)) : Type 0 where
  pub choices : Extends old_c new_c
  pub branches : Extends old_b new_b
  pub size : length new_c ≡ length old_c + k
  pub room : length new_b ≤ length old_b + 8 * k
  pub held : HoldsChoices T s k (length old_c) new_c new_b

-- the row is that of a state
pub record HoldsState (T : Table) (s : ℕ) (row : StateRow) (choices : List ChoiceRow) (branches : List (ℕ × ℕ)) : Type 0 where
  pub count : row.count ≡ T.choices s
  pub held : HoldsChoices T s (T.choices s) row.first choices branches

-- a choice of one of the first k states earns r
abbrev pub Earned : Table → ℕ → ℤ → Type 0
Earned T k r = (s : ℕ) × (c : ℕ) × (s < k) × (c < T.choices s) × (T.reward s c ≡ r)

-- the lists hold the first k states, and each row of a choice earns what one of their choices earns
pub record StatesCopied (T : Table) (k : ℕ) (states : List StateRow) (choices : List ChoiceRow) (branches : List (ℕ × ℕ)) : Type 0 where
  pub size : length states ≡ k
  pub few_choices : length choices ≤ 16 * k
  pub few_branches : length branches ≤ 128 * k
  pub at : (s : ℕ) → s < k → HoldsState T s (slice_index_or states s no_state) choices branches
  pub earned : All (λ (row : ChoiceRow). Earned T k row.reward) choices

-- the lists hold all states of a table that is 0 outside
pub record TableCopied (T : Table) (states : List StateRow) (choices : List ChoiceRow) (branches : List (ℕ × ℕ)) : Type 0 where
  pub rows : StatesCopied T T.states states choices branches
  pub outside : ZeroOutside T
