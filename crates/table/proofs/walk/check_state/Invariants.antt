use Rattle.std.proofs.Common.{◌≡◌, Ok}
use Rattle.table.specs.Walk.{each, branch_walk, choice_walk}
use Rattle.table.proofs.Walks.{checked}
use Rattle.table.proofs.walk.check_state.Given as goal

-- nothing is broken at the choices so far
abbrev pub invariant-loop-choice : goal.invariant-loop-choice
invariant-loop-choice g l =
    checked (g.S.Source.table l.source) (each l.choice (choice_walk (g.S.Source.table l.source) l.state)) ≡ Ok tt

-- nothing is broken at the branches so far
abbrev pub invariant-loop-branch : goal.invariant-loop-branch
invariant-loop-branch g l =
    checked (g.S.Source.table l.source) (each l.branch (branch_walk l.state l.choice)) ≡ Ok tt
