use Rattle.std.proofs.Common.{◌≡◌}
use Rattle.horizon.specs.Means.{round_down, round_up}
use Rattle.rules.specs.Refine.{worth}
use Rattle.rules.specs.Setting.{setting_of}
use Rattle.book.specs.Vectors.{vector_table, numbers}
use Rattle.book.specs.Inside.{over_inside}
use Rattle.book.proofs.vector.Vector.best_inside.Given as goal

-- the best of the inside choices so far, on either side
abbrev pub invariant-loop-choice : goal.invariant-loop-choice
invariant-loop-choice l =
    (l.upper ≡ over_inside (vector_table l.self) (worth (setting_of (vector_table l.self)) round_up (numbers l.self) l.state) l.state l.choice)
    × (l.lower ≡ over_inside (vector_table l.self) (worth (setting_of (vector_table l.self)) round_down (numbers l.self) l.state) l.state l.choice)
