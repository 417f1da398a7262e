use Rattle.std.proofs.Common.{arith}
use Rattle.model.proofs.Unbroken.{model_lawful}
use Rattle.decomposition.proofs.passes.drop_choice.Goals as goal

pub remove-requires-clause-choice : goal.remove-requires-clause-choice
remove-requires-clause-choice c =
    let few = ((model_lawful c.args.model.now).choices c.args.state c.requires.state).1 in
    let l = c.requires.choice in
    omega arith
