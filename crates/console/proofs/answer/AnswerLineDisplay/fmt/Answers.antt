use Rattle.std.proofs.Common.{arith, rules}
use Rattle.std.proofs.Output.{has_written_append, has_written_of_eq}
use Rattle.console.proofs.Fields.{answer_more}
use Rattle.console.proofs.answer.AnswerLineDisplay.fmt.Goals as goal

pub loop-choice-preserved : goal.loop-choice-preserved
loop-choice-preserved g c plain =
    has_written_of_eq _ _ _ _ _ (answer_more 80 c.in-Planned.choices.now c.loop-choice.choice-index (omega arith))
    (has_written_append _ _ _ _ _ _ (c.loop-choice.invariant plain) (search rules))
