use Rattle.std.proofs.Common.{◌≡◌, ℕ, ◌+◌, ◌++◌, map, vec_items, vec_len}
use Rattle.std.specs.List.{range_with_len}
use Rattle.samples.specs.Tables.{Gives}
use Rattle.samples.proofs.tables.add_branches.Given as goal

-- the branches so far have been added
abbrev pub invariant-loop-place : goal.invariant-loop-place
invariant-loop-place g l = record {
  items : (f : ℕ → ℕ × ℕ) → Gives l.count (goal.F-post g l.branch l.choice) f
      → vec_items l.branches ≡ vec_items l.initial.branches ++ map f (range_with_len 0 l.place);
  long : vec_len l.branches ≡ vec_len l.initial.branches + l.place;
}
