use Rattle.horizon.proofs.UpperBounds.{bound_of_upper_values}
use Rattle.horizon.proofs.upper_theorem.Goals as goal

pub returns-clause-theorem : goal.returns-clause-theorem
returns-clause-theorem c = bound_of_upper_values
