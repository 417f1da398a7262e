-- The tables of the worked histories. Branches are written (successor, weight).
use Rattle.std.specs.Prelude.{[], ◌∷◌, ℤ, pos, neg_ℤ}
use Rattle.table.specs.Table.{Table}
use Rattle.components.specs.Worked.{rows}

-- A: one state that loops with reward 3
unfoldable pub model_a : Table
model_a = rows 1 (((pos 3, (0, 1) ∷ []) ∷ []) ∷ [])

-- B: a cycle of two states, with rewards 0 and 10
unfoldable pub model_b : Table
model_b = rows 2 (((pos 0, (1, 2) ∷ []) ∷ []) ∷ ((pos 10, (0, 2) ∷ []) ∷ []) ∷ [])

-- C: a lone state with two choices, and two states that loop with 8 and -4
unfoldable pub model_c : Table
model_c =
    rows 4 (((pos 0, (1, 1) ∷ (2, 3) ∷ []) ∷ (pos 8, (0, 2) ∷ (2, 2) ∷ []) ∷ []) ∷ ((pos 8, (1, 4) ∷ []) ∷ []) ∷ ((neg_ℤ (pos 4), (2, 4) ∷ []) ∷ []) ∷ [])

-- D: a lone state that leads to two states which loop, one with reward r and one with 0
unfoldable pub model_d : ℤ → Table
model_d r = rows 3 (((pos 0, (1, 1) ∷ (2, 2) ∷ []) ∷ []) ∷ ((r, (1, 3) ∷ []) ∷ []) ∷ ((pos 0, (2, 3) ∷ []) ∷ []) ∷ [])

-- E: a cycle of two states, the second with a choice that may leave it for a state that loops with 6
unfoldable pub model_e : Table
model_e =
    rows 2 (((pos 0, (1, 2) ∷ []) ∷ []) ∷ ((pos 0, (0, 2) ∷ []) ∷ (pos 0, (0, 1) ∷ (2, 1) ∷ []) ∷ []) ∷ ((pos 6, (2, 2) ∷ []) ∷ []) ∷ [])

-- F: a state with a branch to itself that is lone all the same
unfoldable pub model_f : Table
model_f = rows 2 (((pos 0, (0, 1) ∷ (1, 1) ∷ []) ∷ []) ∷ ((pos 0, (1, 2) ∷ []) ∷ []) ∷ [])

-- Tables that break one limit each, at state 1 where the limit has a place

-- no state
unfoldable pub no_states : Table
no_states = rows 1 []

-- a denominator above 65,536
unfoldable pub coarse : Table
coarse = rows 65537 (((pos 0, (0, 65537) ∷ []) ∷ []) ∷ [])

-- a state without a choice
unfoldable pub no_choices : Table
no_choices = rows 1 (((pos 0, (0, 1) ∷ []) ∷ []) ∷ [] ∷ [])

-- a reward below -1,000,000
unfoldable pub dear : Table
dear = rows 1 (((pos 0, (0, 1) ∷ []) ∷ []) ∷ ((neg_ℤ (pos 1000001), (1, 1) ∷ []) ∷ []) ∷ [])

-- a choice without a branch
unfoldable pub no_branches : Table
no_branches = rows 1 (((pos 0, (0, 1) ∷ []) ∷ []) ∷ ((pos 0, (1, 1) ∷ []) ∷ (pos 0, []) ∷ []) ∷ [])

-- a successor that is no state
unfoldable pub astray : Table
astray = rows 2 (((pos 0, (0, 2) ∷ []) ∷ []) ∷ ((pos 0, (0, 1) ∷ (2, 1) ∷ []) ∷ []) ∷ [])

-- a weight 0
unfoldable pub weightless : Table
weightless = rows 2 (((pos 0, (0, 2) ∷ []) ∷ []) ∷ ((pos 0, (0, 2) ∷ (1, 0) ∷ []) ∷ []) ∷ [])

-- a successor that stands twice
unfoldable pub twice : Table
twice = rows 2 (((pos 0, (0, 2) ∷ []) ∷ []) ∷ ((pos 0, (0, 1) ∷ (0, 1) ∷ []) ∷ []) ∷ [])

-- weights that add up to 3, one less than the denominator
unfoldable pub light : Table
light = rows 4 (((pos 0, (0, 4) ∷ []) ∷ []) ∷ ((pos 0, (1, 4) ∷ []) ∷ (pos 9, (0, 1) ∷ (1, 2) ∷ []) ∷ []) ∷ [])
