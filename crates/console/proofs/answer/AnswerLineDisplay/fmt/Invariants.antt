use Rattle.std.proofs.Common.{map, pos, take}
use Rattle.std.specs.Fmt.{HasWritten, IsPlainFormatter}
use Rattle.console.specs.Lines.{answer_line}
use Rattle.console.proofs.answer.AnswerLineDisplay.fmt.Given as goal

-- the plan so far
abbrev pub invariant-loop-choice : goal.invariant-loop-choice
invariant-loop-choice g l =
    IsPlainFormatter l.fn.f → HasWritten g.W.Write.write_str_gives l.fn.f (answer_line 80 (map pos (take l.choice-index l.choice-items))) l.f
