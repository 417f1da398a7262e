use Rattle.table.specs.Table.{Table}
use Rattle.decomposition.specs.Flags.{flag_at}
use Rattle.model.specs.Held.{table_of}
use Rattle.decomposition.proofs.Marked.{reach_shown}
use Rattle.decomposition.proofs.reach.mark_reach.Goals as goal

pub returns : goal.returns
returns c =
    let T : Table = table_of c.args.model.now in
    reach_shown T (flag_at c.args.kept.now.flags.items) c.mark_steps.new.square.rows.items c.mark_steps.ensures c.close.new.self.rows.items
    (rw c.states.ensures.value at c.close.ensures)
