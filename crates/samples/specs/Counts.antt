-- How large a table of its own lists is.
use Rattle.std.specs.Prelude.{◌≡◌, ℕ, vec_len}
use Rattle.sources.specs.declared.owned.OwnedList.{OwnedList}

-- the table has s rows of states, c rows of choices and b branches, over the denominator 65,536
pub record HasCounts (s c b : ℕ) (table : OwnedList) : Type 0 where
  pub denominator : table.denominator ≡ 65536
  pub states : vec_len table.states ≡ s
  pub choices : vec_len table.choices ≡ c
  pub branches : vec_len table.branches ≡ b
