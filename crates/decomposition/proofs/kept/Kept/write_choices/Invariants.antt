use Rattle.std.proofs.Common.{◌≤◌, vec_items, vec_capacity}
use Rattle.model.specs.Held.{table_of}
use Rattle.decomposition.specs.Flags.{OwnFlags}
use Rattle.decomposition.proofs.kept.Kept.write_choices.Given as goal

-- the flags of the states so far are written, and the list keeps its room
abbrev pub invariant-loop-state : goal.invariant-loop-state
invariant-loop-state l = OwnFlags (table_of l.model) l.state l.self.flags.items (vec_items l.flags) × (4096 ≤ vec_capacity l.flags)
