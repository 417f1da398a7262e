use Rattle.book.proofs.Rewards.{least_found, largest_found}
use Rattle.book.proofs.layout.Layout.new.Goals as goal

pub invariant_of-result : goal.invariant_of-result
invariant_of-result c =
    record {
      least_is = least_found _ c.in_ok-model.model c.in_ok-model.ensures;
      largest_is = largest_found _ c.in_ok-model.model c.in_ok-model.ensures;
      held = c.in_ok-lists.ensures;
    }
