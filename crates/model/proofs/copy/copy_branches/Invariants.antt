use Rattle.std.proofs.Common.{◌≡◌, map, take, length}
use Rattle.std.specs.List.{range_with_len}
use Rattle.model.proofs.copy.copy_branches.Given as goal

-- the branches so far stand in the run
abbrev pub invariant-loop-branch : goal.invariant-loop-branch
invariant-loop-branch g l =
    (take l.branch l.run ≡ map ((g.S.Source.table l.source).branch l.state l.choice) (range_with_len 0 l.branch)) × (length l.run ≡ 8)
