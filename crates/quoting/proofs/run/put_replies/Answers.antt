use Rattle.std.proofs.Common.{◌≡◌, ℕ, suc, ◌<◌, List, ◌++◌, length, string_bytes, ap, ◌∙◌, arith}
use Rattle.console.specs.Answers.{line_bytes}
use Rattle.console.specs.Inputs.{lines_of}
use Rattle.console.specs.declared.input.Lines.{Lines}
use Rattle.quoting.specs.Consoles.{held}
use Rattle.quoting.specs.Runs.{replies, bytes_of}
use Rattle.quoting.proofs.Walking.{line_more, lines_few}
use Rattle.quoting.proofs.run.put_replies.Goals as goal

pub loop-line-init : goal.loop-line-init
loop-line-init c =
    let whole : c.into_iter-line-iterator.result.rest.now ≡ c.args.input.now = ap (λ (s : Lines). s.rest.now) c.into_iter-line-iterator.ensures.into_iter_gives ∙ c.new-line-items.ensures in (
      ap (λ (n : ℕ). string_bytes c.args.text.now ++ bytes_of (replies (suc n) (held c.args.console) (lines_of c.into_iter-line-iterator.result.rest.now))) c.requires
          ∙ ap (λ (bs : List ℕ). string_bytes c.args.text.now ++ bytes_of (replies 1 (held c.args.console) (lines_of bs))) whole,
      omega (arith, lines_few c.args.input.now, ap (λ (bs : List ℕ). length (lines_of bs)) whole),
    )

pub loop-line-preserved : goal.loop-line-preserved
loop-line-preserved c =
    let found = c.in-Some.ensures.steps in
    let answer = c.answer-answer.ensures in
    let size = ap length found in
    let few : c.loop-line.console.lines < 18446744073709551615 = omega (arith, size) in
    let more = line_more (string_bytes c.loop-line.text) _ _ (line_bytes c.answer-answer.result) _ _ c.loop-line.console.lines c.answer-answer.new.self.lines
    (held c.loop-line.console) (held c.answer-answer.new.self) found few answer.bytes answer.count answer.engine c.loop-line.invariant.0 in (
      ap (λ (bs : List ℕ). bs ++ bytes_of (replies (suc c.answer-answer.new.self.lines) (held c.answer-answer.new.self) (lines_of c.next.new.self.rest.now)))
          c.in_ok-writeln.ensures.bytes ∙ more,
      omega (arith, answer.count, size),
    )
