use Rattle.book.specs.Desks.{desk_table}
use Rattle.book.proofs.Keeps.{keeps_true, keeps_from}
use Rattle.book.proofs.desk.Desk.load.Goals as goal

pub start-requires : goal.start-requires
start-requires g c = (keeps_true (desk_table c.args.self.now) c.args.self.now.book c.args.self.now.kept).room

pub invariant_of-self-2 : goal.invariant_of-self-2
invariant_of-self-2 g c = record { kept = keeps_from _ c.start.new.self c.start.ensures.kept }
