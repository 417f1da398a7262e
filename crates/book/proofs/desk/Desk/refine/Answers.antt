use Rattle.std.proofs.Common.{◌<◌, ◌≤◌, refl, arith}
use Rattle.components.specs.Nodes.{components}
use Rattle.book.specs.Desks.{desk_table, desk_book}
use Rattle.book.proofs.Desks.{no_steps, no_change, some_steps, some_change}
use Rattle.book.proofs.Layouts.{components_few}
use Rattle.book.proofs.desk.Desk.refine.Goals as goal

pub returns-then-component-components : goal.returns-then-component-components
returns-then-component-components c =
    let d = c.args.self.now in
    let h : components (desk_table d) ≤ c.args.component = omega (arith, c.components.ensures, c.if-component-components.true) in
    record {
      made = no_steps (desk_table d) (desk_book d) c.args.component c.args.steps c.args.width h;
      table = refl;
      book = no_change (desk_table d) (desk_book d) c.args.component c.args.steps c.args.width h;
    }

pub overflow_cast-component : goal.overflow_cast-component
overflow_cast-component c = omega (arith, components_few c.args.self.now.layout, c.components.ensures, c.if-component-components.false)

pub returns : goal.returns
returns c =
    let d = c.args.self.now in
    let h : c.args.component < components (desk_table d) = omega (arith, c.components.ensures, c.if-component-components.false) in
    record {
      made = some_steps (desk_table d) (desk_book d) c.args.component c.args.steps c.args.width c.refine_steps.result h c.refine_steps.ensures.made;
      table = c.refine_steps.ensures.table;
      book = some_change (desk_table d) (desk_book d) (desk_book c.refine_steps.new.self) c.args.component c.args.steps c.args.width h c.refine_steps.ensures.book;
    }
