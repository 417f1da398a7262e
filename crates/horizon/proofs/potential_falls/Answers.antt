use Rattle.horizon.proofs.Potentials.{potential_laws}
use Rattle.horizon.proofs.potential_falls.Goals as goal

pub returns-clause-theorem : goal.returns-clause-theorem
returns-clause-theorem c = potential_laws
