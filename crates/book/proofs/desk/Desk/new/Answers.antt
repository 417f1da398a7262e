use Rattle.book.proofs.Keeps.{keeps_from}
use Rattle.book.proofs.desk.Desk.new.Goals as goal

pub invariant_of-result : goal.invariant_of-result
invariant_of-result c = record { kept = keeps_from _ c.in_ok-book.book c.in_ok-book.ensures.kept }
