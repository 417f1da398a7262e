-- A programme as a finite Markov decision process: one table of whole numbers.
-- States, the choices of a state and the branches of a choice are numbered from 0.
use Rattle.std.specs.Prelude.{◌≡◌, ℕ, ◌≤◌, ℤ, pos}

pub record Table : Type 0 where
  -- how many states there are
  pub states : ℕ
  -- the one denominator W of all probabilities
  pub denominator : ℕ
  -- how many choices a state has
  pub choices : ℕ → ℕ
  -- what a choice of a state earns each time that it is taken
  pub reward : ℕ → ℕ → ℤ
  -- how many branches a choice of a state has
  pub branches : ℕ → ℕ → ℕ
  -- a branch of a choice of a state: the successor and the weight; its probability is weight / W
  pub branch : ℕ → ℕ → ℕ → ℕ × ℕ

abbrev pub successor : Table → ℕ → ℕ → ℕ → ℕ
successor T s c b = (T.branch s c b).0

abbrev pub weight : Table → ℕ → ℕ → ℕ → ℕ
weight T s c b = (T.branch s c b).1

-- Outside the table each number is 0: at states, choices and branches that it does not have.
pub record ZeroOutside (T : Table) : Type 0 where
  pub choices : (s : ℕ) → T.states ≤ s → T.choices s ≡ 0
  pub reward : (s c : ℕ) → T.choices s ≤ c → T.reward s c ≡ pos 0
  pub branches : (s c : ℕ) → T.choices s ≤ c → T.branches s c ≡ 0
  pub branch : (s c b : ℕ) → T.branches s c ≤ b → T.branch s c b ≡ (0, 0)
