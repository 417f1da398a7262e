-- The table that a model describes.
use Rattle.std.specs.Prelude.{◌≡◌, ℕ, List, [], map, length, take, pos, slice_index_or}
use Rattle.table.specs.Table.{Table}
use Rattle.modelfile.specs.Records.{ChoiceFields}
use Rattle.modelfile.specs.File.{Model}
use Rattle.modelfile.specs.Lists.{denominator_of, reward_of, branches_of}

-- more than 256 states count as 257, as in a caller's list
abbrev pub state_of : Model → ℕ → List ChoiceFields
state_of m s = slice_index_or (take 257 m.states) s []

-- the branches of choice c of state s
abbrev pub branches_at : Model → ℕ → ℕ → List (ℕ × ℕ)
branches_at m s c = slice_index_or (map (branches_of (denominator_of m) s) (state_of m s)) c []

-- the table of a model: outside of it each number is 0
abbrev pub model_table : Model → Table
model_table m = record {
  states = length (take 257 m.states);
  denominator = denominator_of m;
  choices = λ s. length (state_of m s);
  reward = λ s c. slice_index_or (map reward_of (state_of m s)) c (pos 0);
  branches = λ s c. length (branches_at m s c);
  branch = λ s c b. slice_index_or (branches_at m s c) b (0, 0);
}

-- two tables that agree at each place
pub record SameTable (T U : Table) : Type 0 where
  pub states : T.states ≡ U.states
  pub denominator : T.denominator ≡ U.denominator
  pub choices : (s : ℕ) → T.choices s ≡ U.choices s
  pub reward : (s c : ℕ) → T.reward s c ≡ U.reward s c
  pub branches : (s c : ℕ) → T.branches s c ≡ U.branches s c
  pub branch : (s c b : ℕ) → T.branch s c b ≡ U.branch s c b
