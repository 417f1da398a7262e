use Rattle.std.proofs.Common.{◌≡◌, ◌+◌, ◌*◌, ◌≤◌, vec_items, vec_len}
use Rattle.samples.specs.Tables.{StatesAdded}
use Rattle.samples.proofs.tables.add_states.Given as goal

-- the states so far have been added
abbrev pub invariant-loop-state : goal.invariant-loop-state
invariant-loop-state g l = record {
  denominator : l.table.denominator ≡ l.initial.table.denominator;
  states : l.from + vec_len l.table.states ≡ vec_len l.initial.table.states + l.state;
  choices : 16 * l.from + vec_len l.table.choices ≡ vec_len l.initial.table.choices + 16 * l.state;
  branches : l.count * (16 * l.from) + vec_len l.table.branches ≡ vec_len l.initial.table.branches + l.count * (16 * l.state);
  few_choices : vec_len l.table.choices ≤ 16 * l.state;
  few_branches : vec_len l.table.branches ≤ 128 * l.state;
  rows : StatesAdded l.spread l.from l.to l.state l.count (goal.F-post g l.branch)
      (vec_items l.initial.table.states) (vec_items l.table.states) (vec_items l.initial.table.choices) (vec_items l.table.choices)
      (vec_items l.initial.table.branches) (vec_items l.table.branches);
}
