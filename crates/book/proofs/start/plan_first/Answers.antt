use Rattle.std.proofs.Common.{arith}
use Rattle.std.proofs.lemmas.List.FromFn.{fill_by_all}
use Rattle.table.specs.Table.{Table}
use Rattle.components.specs.Nodes.{nodes}
use Rattle.rules.specs.declared.exit.Exit.TheVariants.{Stay}
use Rattle.book.specs.Layouts.{layout_table}
use Rattle.book.specs.Starts.{first_exit}
use Rattle.book.proofs.Layouts.{nodes_few}
use Rattle.book.proofs.start.plan_first.Goals as goal

pub overflow_cast-node : goal.overflow_cast-node
overflow_cast-node c =
    omega (arith, nodes_few c.args.layout.now, c.requires.size, c.loop-node.auto.plan, c.loop-node-test.true)

pub returns : goal.returns
returns c =
    let T : Table = layout_table c.args.layout.now in
    let z = c.requires.size in
    fill_by_all (first_exit T) c.loop-node.plan (nodes T) Stay (omega arith) (λ k l. c.loop-node.invariant k (omega arith))
