use Rattle.std.proofs.Common.{◌≡◌, ◌+◌, ◌*◌, vec_items, vec_len}
use Rattle.samples.specs.Tables.{ChoicesAdded}
use Rattle.samples.proofs.tables.add_choices.Given as goal

-- the choices so far have been added
abbrev pub invariant-loop-choice : goal.invariant-loop-choice
invariant-loop-choice g l = record {
  denominator : l.table.denominator ≡ l.initial.table.denominator;
  states : l.table.states ≡ l.initial.table.states;
  choices : vec_len l.table.choices ≡ vec_len l.initial.table.choices + l.choice;
  branches : vec_len l.table.branches ≡ vec_len l.initial.table.branches + l.choice * l.count;
  rows : ChoicesAdded l.spread l.state l.choice l.count (goal.F-post g l.branch)
      (vec_items l.initial.table.choices) (vec_items l.table.choices) (vec_items l.initial.table.branches) (vec_items l.table.branches);
}
