use Rattle.std.proofs.Common.{◌≡◌, Ok}
use Rattle.table.specs.Walk.{each, state_walk}
use Rattle.table.proofs.Walks.{checked}
use Rattle.table.proofs.walk.check.Given as goal

-- nothing is broken at the states so far
abbrev pub invariant-loop-state : goal.invariant-loop-state
invariant-loop-state g l =
    checked (g.S.Source.table l.source) (each l.state (state_walk (g.S.Source.table l.source))) ≡ Ok tt
