use Rattle.std.proofs.Common.{get_or, pos}
use Rattle.horizon.specs.Means.{round_down, round_up}
use Rattle.rules.specs.Refine as refining
use Rattle.rules.specs.Setting.{setting_of}
use Rattle.book.specs.Vectors.{vector_table, numbers}
use Rattle.book.proofs.Members.{Written}
use Rattle.book.proofs.StepExtremes.{Highest, Lowest}
use Rattle.book.proofs.vector.Vector.survey.Given as goal

-- the extremes over the members so far, which are written
abbrev pub invariant-loop-state : goal.invariant-loop-state
invariant-loop-state l =
    Highest (λ p. refining.gain (setting_of (vector_table l.self)) round_up (numbers l.self) (get_or l.members p 0)) l.state-index l.found.up
    × Lowest (λ p. refining.gain (setting_of (vector_table l.self)) round_down (numbers l.self) (get_or l.members p 0)) l.state-index l.found.down
    × Lowest (λ p. refining.halfway (setting_of (vector_table l.self)) (numbers l.self) (get_or l.members p 0)) l.state-index l.found.least
    × Highest (λ p. refining.halfway (setting_of (vector_table l.self)) (numbers l.self) (get_or l.members p 0)) l.state-index l.found.largest
    × Written (vector_table l.self) l.node l.members (pos 0) (refining.halfway (setting_of (vector_table l.self)) (numbers l.self)) l.state-index l.initial.halfway l.halfway
    × Written (vector_table l.self) l.node l.members 0 (refining.attains (setting_of (vector_table l.self)) (numbers l.self)) l.state-index l.initial.marks l.marks
