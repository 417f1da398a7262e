use Rattle.std.proofs.Common.{Bool, List, sym, subst}
use Rattle.table.specs.Table.{Table}
use Rattle.components.specs.Inside.{reach}
use Rattle.decomposition.specs.Flags.{flag_at}
use Rattle.decomposition.specs.Marking.{Shows}
use Rattle.decomposition.proofs.Drops.{passed}
use Rattle.model.specs.Held.{table_of}
use Rattle.model.proofs.Unbroken.{model_lawful}
use Rattle.decomposition.proofs.passes.pass.Goals as goal

pub returns-clause-passed : goal.returns-clause-passed
returns-clause-passed c =
    passed (table_of c.args.model.now) (model_lawful c.args.model.now) c.mark_reach.new.square.rows.items c.args.kept.now.flags.items
    c.drop_choices.new.kept.flags.items c.drop_choices.result c.mark_reach.ensures c.drop_choices.ensures

pub returns-clause-marked : goal.returns-clause-marked
returns-clause-marked c e =
    let T : Table = table_of c.args.model.now in
    subst (λ (flags : List Bool). Shows T.states c.mark_reach.new.square.rows.items (reach T (flag_at flags)))
    (sym (c.drop_choices.ensures.still e)) c.mark_reach.ensures
