use Rattle.book.proofs.Rewards.{least_found, largest_found}
use Rattle.book.proofs.layout.Layout.load.Goals as goal

pub invariant_of-self-2 : goal.invariant_of-self-2
invariant_of-self-2 g c =
    record {
      least_is = least_found _ c.load.new.self c.in_ok-load.ensures;
      largest_is = largest_found _ c.load.new.self c.in_ok-load.ensures;
      held = c.fill.ensures;
    }
