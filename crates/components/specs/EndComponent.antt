-- End components of a table.
-- A set is given by its test of membership; it is read only at the states and choices that the table has.
use Rattle.std.specs.Prelude.{◌≡◌, ℕ, ◌<◌, Bool, true}
use Rattle.table.specs.Table.{Table, successor}

-- a set of states
abbrev pub States : Type 0
States = ℕ → Bool

-- a set of choices, each with its state
abbrev pub Choices : Type 0
Choices = ℕ → ℕ → Bool

-- c is a choice of the state s
pub record Choice (T : Table) (s c : ℕ) : Type 0 where
  pub state : s < T.states
  pub choice : c < T.choices s

-- s reaches t by choices of B: it is t, or a branch of a choice of B leads to a state that does
pub data Reaches (T : Table) (B : Choices) : ℕ → ℕ → Type 0 where
  stays : {s : ℕ} → Reaches T B s s
  steps : {s t : ℕ} (c b : ℕ) → Choice T s c → B s c ≡ true → b < T.branches s c
      → Reaches T B (successor T s c b) t → Reaches T B s t

-- a nonempty set of states R with a nonempty set of their choices B
pub record EndComponent (T : Table) (R : States) (B : Choices) : Type 0 where
  -- there is a state in R
  pub some_state : (s : ℕ) × (s < T.states) × (R s ≡ true)
  -- there is a choice in B
  pub some_choice : (s : ℕ) × (c : ℕ) × Choice T s c × (B s c ≡ true)
  -- the choices of B are choices of states of R
  pub owned : (s c : ℕ) → Choice T s c → B s c ≡ true → R s ≡ true
  -- every successor of these choices lies in R
  pub closed : (s c b : ℕ) → Choice T s c → B s c ≡ true → b < T.branches s c → R (successor T s c b) ≡ true
  -- every state of R reaches every other by them
  pub connected : (s t : ℕ) → s < T.states → t < T.states → R s ≡ true → R t ≡ true → Reaches T B s t

-- each state of R is in R'
abbrev pub StatesIncluded : Table → States → States → Type 0
StatesIncluded T R R' = (s : ℕ) → s < T.states → R s ≡ true → R' s ≡ true

-- each choice of B is in B'
abbrev pub ChoicesIncluded : Table → Choices → Choices → Type 0
ChoicesIncluded T B B' = (s c : ℕ) → Choice T s c → B s c ≡ true → B' s c ≡ true

-- no larger end component contains it: one that has all its states and choices has no others
pub record Maximal (T : Table) (R : States) (B : Choices) : Type 0 where
  pub component : EndComponent T R B
  pub largest : (R' : States) (B' : Choices) → EndComponent T R' B' → StatesIncluded T R R' → ChoicesIncluded T B B'
      → StatesIncluded T R' R × ChoicesIncluded T B' B
