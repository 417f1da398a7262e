use Rattle.horizon.proofs.Examples.{worked_example}
use Rattle.horizon.proofs.example_rewards.Goals as goal

pub returns-clause-theorem : goal.returns-clause-theorem
returns-clause-theorem c = worked_example
