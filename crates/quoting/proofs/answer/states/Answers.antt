use Rattle.std.proofs.Common.{◌≡◌, rules}
use Rattle.std.specs.Result.{MatchResult}
use Rattle.engine.specs.States.{state_of}
use Rattle.quoting.proofs.Answering.{counted_states}
use Rattle.quoting.proofs.answer.states.Goals as goal

pub returns : goal.returns
returns c =
    let given : MatchResult c.standing.result (λ a. c.map_or.result ≡ a.0) (λ _. c.map_or.result ≡ 0) = search rules in
    counted_states (state_of c.args.engine.now) c.standing.result c.map_or.result c.standing.ensures given
