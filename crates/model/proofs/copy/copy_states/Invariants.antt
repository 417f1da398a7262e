use Rattle.std.proofs.Common.{◌≡◌, vec_items}
use Rattle.model.specs.Copy.{StatesCopied}
use Rattle.model.specs.Room.{HasRoom}
use Rattle.model.proofs.copy.copy_states.Given as goal

-- the states so far have been copied, and the lists keep their room
abbrev pub invariant-loop-state : goal.invariant-loop-state
invariant-loop-state g l =
    StatesCopied (g.S.Source.table l.source) l.state (vec_items l.rows.states) (vec_items l.rows.choices) (vec_items l.rows.branches)
    × (l.rows.denominator ≡ (g.S.Source.table l.source).denominator) × HasRoom l.rows
