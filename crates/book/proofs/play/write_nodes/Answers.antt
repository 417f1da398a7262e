use Rattle.std.proofs.Common.{refl, arith}
use Rattle.table.specs.Table.{Table}
use Rattle.components.specs.Nodes.{node_of}
use Rattle.components.proofs.Nodes.{node_bound}
use Rattle.book.specs.Layouts.{layout_table}
use Rattle.book.proofs.Layouts.{law, nodes_few}
use Rattle.book.proofs.play.write_nodes.Goals as goal

pub overflow_cast-node : goal.overflow_cast-node
overflow_cast-node c = omega (arith, nodes_few c.args.layout.now, c.requires.plan)

pub returns : goal.returns
returns c =
    let T : Table = layout_table c.args.layout.now in
    let p = c.requires.plan in
    record {
      written = λ s h. (let b = node_bound T (law c.args.layout.now) (node_of T s) s h refl in c.loop-v.invariant.0 s h (omega arith));
      rest = c.loop-v.invariant.1;
    }
