use Rattle.std.proofs.Common.{◌∙◌}
use Rattle.table.specs.Table.{Table}
use Rattle.components.specs.Inside.{inside}
use Rattle.model.specs.Held.{table_of}
use Rattle.model.proofs.Unbroken.{model_lawful}
use Rattle.decomposition.specs.Flags.{flag_at}
use Rattle.decomposition.proofs.Decomposing.{all_set, decomposed}
use Rattle.decomposition.proofs.Drops.{reach_same}
use Rattle.decomposition.proofs.parts.Parts.take_apart.Goals as goal

pub settle-requires : goal.settle-requires
settle-requires c = all_set (table_of c.args.model.now) (model_lawful c.args.model.now) _ c.fill.ensures

pub invariant_of-number : goal.invariant_of-number
invariant_of-number c =
    let T : Table = table_of c.args.model.now in
    record {
      kept_is = c.settle.ensures.kept;
      reached = λ s t h k.
          c.settle.ensures.marked s t h k
          ∙ reach_same T (model_lawful c.args.model.now) (flag_at c.settle.new.kept.flags.items) (inside T) c.settle.ensures.kept s t h;
    }

pub returns : goal.returns
returns c =
    let T : Table = table_of c.args.model.now in
    let law = model_lawful c.args.model.now in
    decomposed T law _ c.settle.new.kept.flags.items c.settle.ensures.kept c.write_choices.ensures.flags
    c.number.ensures
    c.number.new.self.component.ok.0
