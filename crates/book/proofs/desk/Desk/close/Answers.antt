use Rattle.std.proofs.Common.{refl}
use Rattle.book.specs.Books.{book_of}
use Rattle.book.specs.Desks.{desk_table, desk_book}
use Rattle.book.proofs.Desks.{closed}
use Rattle.book.proofs.Keeps.{keeps_true, keeps_from}
use Rattle.book.proofs.Starts.{kept_sized}
use Rattle.book.proofs.desk.Desk.close.Goals as goal

pub write_start-requires : goal.write_start-requires
write_start-requires c =
    let d = c.args.self.now in
    record { sized = kept_sized (desk_table d) d.book (keeps_true (desk_table d) d.book d.kept) }

pub invariant_of-self : goal.invariant_of-self
invariant_of-self c = record { kept = keeps_from (desk_table c.args.self.now) c.write_start.new.book c.write_start.ensures.kept }

pub returns : goal.returns
returns c =
    let d = c.args.self.now in
    record { table = refl; book = closed (desk_table d) (desk_book d) (book_of c.write_start.new.book) c.write_start.ensures.start }
