-- What is true of the components and nodes of every lawful table.
use Rattle.std.specs.Prelude.{◌≡◌, ℕ, ◌<◌, ◌≤◌, true, false, ◌↔◌, MatchOption, ◌≢◌}
use Rattle.table.specs.Table.{Table, successor}
use Rattle.table.specs.Limits.{Lawful}
use Rattle.components.specs.EndComponent.{States, Choices, Choice, Reaches, EndComponent, Maximal, StatesIncluded, ChoicesIncluded}
use Rattle.components.specs.Inside.{inside}
use Rattle.components.specs.Nodes.{nodes, node_of, components, states_of_node, states_of, choices_of, component_at}
use Rattle.components.specs.Depth.{IsDepth, depth}

-- the same states of the table, and the same choices
abbrev pub SameStates : Table → States → States → Type 0
SameStates T R R' = StatesIncluded T R R' × StatesIncluded T R' R

abbrev pub SameChoices : Table → Choices → Choices → Type 0
SameChoices T B B' = ChoicesIncluded T B B' × ChoicesIncluded T B' B

-- s is the lowest state of R
pub record Lowest (T : Table) (R : States) (s : ℕ) : Type 0 where
  pub state : s < T.states
  pub member : R s ≡ true
  pub first : (t : ℕ) → t < s → R t ≡ false

-- s is in no component
abbrev pub Lone : Table → ℕ → Type 0
Lone T s = (R : States) (B : Choices) → EndComponent T R B → R s ≢ true

-- a node is a component or a lone state
pub data Node (T : Table) (R : States) : Type 0 where
  component : (B : Choices) → Maximal T R B → Node T R
  lone : (s : ℕ) → s < T.states → Lone T s → ((t : ℕ) → t < T.states → (R t ≡ true) ↔ (t ≡ s)) → Node T R

-- the components are the maximal end components, numbered from 0 by rising lowest state
pub record ComponentLaw (T : Table) : Type 0 where
  -- each component with its inside choices is a maximal end component
  pub maximal : (i : ℕ) → i < components T → Maximal T (states_of T i) (choices_of T i)
  -- each maximal end component is one of them
  pub all : (R : States) (B : Choices) → Maximal T R B
      → (i : ℕ) × (i < components T) × SameStates T R (states_of T i) × SameChoices T B (choices_of T i)
  -- no state is in two of them
  pub apart : (i j s : ℕ) → states_of T i s ≡ true → states_of T j s ≡ true → i ≡ j
  -- each has a lowest state, and the numbers rise with it
  pub lowest : (i : ℕ) → i < components T → (s : ℕ) × Lowest T (states_of T i) s
  pub rising : (i j s t : ℕ) → i < j → j < components T → Lowest T (states_of T i) s → Lowest T (states_of T j) t → s < t

-- the inside choices
pub record InsideLaw (T : Table) : Type 0 where
  -- a choice is inside exactly if it belongs to a component's end component
  pub belongs : (s c : ℕ) → Choice T s c
      → (inside T s c ≡ true) ↔ ((i : ℕ) × (i < components T) × (choices_of T i s c ≡ true))
  -- or, which is the same, if its state and all its successors lie in one component
  pub stays : (s c : ℕ) → Choice T s c
      → (inside T s c ≡ true)
      ↔ ((i : ℕ) × (i < components T) × (states_of T i s ≡ true)
      × ((b : ℕ) → b < T.branches s c → states_of T i (successor T s c b) ≡ true))
  -- each state of a component has an inside choice
  pub acts : (i s : ℕ) → s < T.states → states_of T i s ≡ true → (c : ℕ) × Choice T s c × (inside T s c ≡ true)
  -- and its states reach each other by inside choices
  pub joined : (i s t : ℕ) → s < T.states → t < T.states → states_of T i s ≡ true → states_of T i t ≡ true
      → Reaches T (inside T) s t

-- the nodes are the components and the lone states, numbered from 0 by rising lowest state
pub record NodeLaw (T : Table) : Type 0 where
  -- each state has its node
  pub each : (s : ℕ) → s < T.states → node_of T s < nodes T
  -- each number stands for a node
  pub node : (v : ℕ) → v < nodes T → Node T (states_of_node T v)
  -- each node has a number
  pub all : (R : States) → Node T R → (v : ℕ) × (v < nodes T) × SameStates T R (states_of_node T v)
  -- each has a lowest state, and the numbers rise with it
  pub lowest : (v : ℕ) → v < nodes T → (s : ℕ) × Lowest T (states_of_node T v) s
  pub rising : (v w s t : ℕ) → v < w → w < nodes T → Lowest T (states_of_node T v) s → Lowest T (states_of_node T w) t → s < t
  -- the component that a node is, if it is one; the state of any other is lone
  pub which : (v : ℕ) → v < nodes T
      → MatchOption (component_at T v)
      ((s : ℕ) → s < T.states → node_of T s ≡ v → Lone T s)
      (λ i. (i < components T) × SameStates T (states_of_node T v) (states_of T i))
  -- there are no more nodes than states, and no more components than nodes
  pub most : nodes T ≤ T.states
  pub fewer : components T ≤ nodes T

-- every node has a depth, at most the number of states
pub record DepthLaw (T : Table) : Type 0 where
  pub least : (v : ℕ) → v < nodes T → IsDepth T (depth T) v
  pub bound : (v : ℕ) → v < nodes T → depth T v ≤ T.states

-- the whole of it, for one table
pub record ComponentsLaw (T : Table) : Type 0 where
  pub component : ComponentLaw T
  pub inside : InsideLaw T
  pub node : NodeLaw T
  pub depth : DepthLaw T

abbrev pub EveryLawfulTable : Type 0
EveryLawfulTable = (T : Table) → Lawful T → ComponentsLaw T
