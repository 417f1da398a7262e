use Rattle.horizon.proofs.LowerBounds.{bound_of_lower_values}
use Rattle.horizon.proofs.lower_theorem.Goals as goal

pub returns-clause-theorem : goal.returns-clause-theorem
returns-clause-theorem c = bound_of_lower_values
