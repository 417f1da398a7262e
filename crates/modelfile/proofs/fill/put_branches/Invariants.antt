use Rattle.std.proofs.Common.{◌≡◌, ◌+◌, map, drop}
use Rattle.modelfile.specs.Bytes.{branch_of}
use Rattle.modelfile.specs.Filling.{fill}
use Rattle.modelfile.proofs.fill.put_branches.Given as goal

-- the branches still to come give the whole list
abbrev pub invariant-loop-i : goal.invariant-loop-i
invariant-loop-i l =
    fill (map branch_of (drop l.i l.runs)) (l.first + l.i) l.list
    ≡ fill (map branch_of l.runs) l.first l.initial.list
