-- A rehedging band: a position that drifts around a centre, which may be held at a cost or brought back at another.
use Rattle.std.specs.Prelude.{ℕ, zero, suc, ◌+◌, ◌-◌, ◌*◌, Bool, cond, ◌&&◌, List, [], ◌∷◌, length, ℤ, pos, neg_ℤ, ◌==◌, nat_le, nat_lt, slice_index_or}
use Rattle.table.specs.Table.{Table}

-- whether the half-width, the cost of holding and that of recentring are within the band's limits
abbrev pub band_within : ℕ → ℕ → ℕ → Bool
band_within b h c = nat_le 1 b && (nat_le b 127 && (nat_le h 7000 && nat_le c 1000000))

-- states 0 to 2b, with the centre b; none outside the limits
abbrev pub band_states : ℕ → ℕ → ℕ → ℕ
band_states b h c = cond (band_within b h c) (2 * b + 1) 0

-- choice 0 holds, choice 1 recentres; a state that the band lacks has none
abbrev pub band_choices : ℕ → ℕ → ℕ → ℕ → ℕ
band_choices b h c s = cond (nat_lt s (band_states b h c)) 2 0

-- how far a state is from the centre
abbrev pub distance : ℕ → ℕ → ℕ
distance b s = (s - b) + (b - s)

-- to hold costs h for each step off the centre, to recentre costs c
abbrev pub cost_at : ℕ → ℕ → ℕ → ℕ → ℕ → ℤ
cost_at b h c s zero = neg_ℤ (pos (h * distance b s))
cost_at b h c s (suc zero) = neg_ℤ (pos c)
cost_at b h c s (suc (suc k)) = pos 0

-- held, the position moves down or up with weight 1 each, and stays with 2; at an end the missing neighbour's weight stays too
abbrev pub holding : ℕ → ℕ → List (ℕ × ℕ)
holding b s =
    cond (s == 0) ((s, 3) ∷ (s + 1, 1) ∷ [])
    (cond (s == 2 * b) ((s - 1, 1) ∷ (s, 3) ∷ []) ((s - 1, 1) ∷ (s, 2) ∷ (s + 1, 1) ∷ []))

-- the branches of a choice; recentred, the position is at the centre
abbrev pub moves_at : ℕ → ℕ → ℕ → List (ℕ × ℕ)
moves_at b s zero = holding b s
moves_at b s (suc zero) = (b, 4) ∷ []
moves_at b s (suc (suc k)) = []

-- the same at the states that the band has, none elsewhere
abbrev pub band_moves : ℕ → ℕ → ℕ → ℕ → ℕ → List (ℕ × ℕ)
band_moves b h c s k = cond (nat_lt s (band_states b h c)) (moves_at b s k) []

abbrev pub band_table : ℕ → ℕ → ℕ → Table
band_table b h c = record {
  states = band_states b h c;
  denominator = 4;
  choices = band_choices b h c;
  reward = λ s k. cond (nat_lt s (band_states b h c)) (cost_at b h c s k) (pos 0);
  branches = λ s k. length (band_moves b h c s k);
  branch = λ s k i. slice_index_or (band_moves b h c s k) i (0, 0);
}
