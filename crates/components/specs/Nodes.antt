-- Components and nodes, as they compute. The node of a state is what it reaches by inside choices:
-- its component, or the state alone; the nodes are the states of the quotient. Both are numbered by rising lowest state.
use Rattle.std.specs.Prelude.{ℕ, cond, ◌&&◌, Some, None, Option, ◌==◌}
use Rattle.table.specs.Table.{Table}
use Rattle.components.specs.Below.{any, count, first}
use Rattle.components.specs.EndComponent.{States, Choices}
use Rattle.components.specs.Inside.{reach, inside}

-- s is in a component: it has an inside choice
unfoldable pub in_component : Table → States
in_component T = let i = inside T in λ s. any (T.choices s) (i s)

-- the lowest state of the node of s
unfoldable pub lowest : Table → ℕ → ℕ
lowest T = let r = reach T (inside T) in λ s. first T.states (r s)

-- s is the lowest state of its node
unfoldable pub is_lowest : Table → States
is_lowest T = let l = lowest T in λ s. (l s == s)

-- s is the lowest state of a component
unfoldable pub heads : Table → States
heads T = let l = is_lowest T in let k = in_component T in λ s. l s && k s

-- how many nodes there are
unfoldable pub nodes : Table → ℕ
nodes T = count T.states (is_lowest T)

-- the node of s: how many nodes have a lower lowest state
unfoldable pub node_of : Table → ℕ → ℕ
node_of T = let l = lowest T in let h = is_lowest T in λ s. count (l s) h

-- how many components there are
unfoldable pub components : Table → ℕ
components T = count T.states (heads T)

-- the component of a state that is in one: how many components have a lower lowest state
unfoldable pub component_of : Table → ℕ → ℕ
component_of T = let l = lowest T in let h = heads T in λ s. count (l s) h

-- the states of the node v
abbrev pub states_of_node : Table → ℕ → States
states_of_node T v s = node_of T s == v

-- the states of the component i, and its choices
abbrev pub states_of : Table → ℕ → States
states_of T i s = in_component T s && component_of T s == i

abbrev pub choices_of : Table → ℕ → Choices
choices_of T i s c = states_of T i s && inside T s c

-- the lowest state of the node v
unfoldable pub lowest_of : Table → ℕ → ℕ
lowest_of T v = first T.states (states_of_node T v)

-- the component that the node v is, if it is one
unfoldable pub component_at : Table → ℕ → Option ℕ
component_at T v = let s = lowest_of T v in cond (in_component T s) (Some (component_of T s)) None
