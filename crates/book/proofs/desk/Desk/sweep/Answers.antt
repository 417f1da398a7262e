use Rattle.book.specs.Desks.{desk_table, desk_book}
use Rattle.book.proofs.Desks.{swept}
use Rattle.book.proofs.desk.Desk.sweep.Goals as goal

pub returns : goal.returns
returns c =
    let d = c.args.self.now in
    record {
      made = c.sweep_times.ensures.made;
      table = c.sweep_times.ensures.table;
      book = swept (desk_table d) (desk_book d) (desk_book c.sweep_times.new.self) c.args.count c.sweep_times.ensures.book;
    }
