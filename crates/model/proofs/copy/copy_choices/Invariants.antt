use Rattle.std.proofs.Common.{◌≤◌, vec_items, vec_capacity}
use Rattle.model.specs.Copy.{ChoicesCopied}
use Rattle.model.proofs.copy.copy_choices.Given as goal

-- the choices so far have been added, and the lists keep their room
abbrev pub invariant-loop-choice : goal.invariant-loop-choice
invariant-loop-choice g l =
    ChoicesCopied (g.S.Source.table l.source) l.state l.choice
    (vec_items l.initial.choices) (vec_items l.choices) (vec_items l.initial.branches) (vec_items l.branches)
    × (vec_capacity l.initial.choices ≤ vec_capacity l.choices) × (vec_capacity l.initial.branches ≤ vec_capacity l.branches)
