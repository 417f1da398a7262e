use Rattle.std.proofs.Common.{ℕ, List, ◌++◌, string_bytes, ap, ◌∙◌}
use Rattle.console.specs.Answers.{line_bytes}
use Rattle.console.specs.Inputs.{lines_of}
use Rattle.quoting.specs.Runs.{replies, bytes_of}
use Rattle.quoting.specs.Consoles.{held}
use Rattle.quoting.proofs.Opening.{going, ended}
use Rattle.quoting.proofs.run.transcript.Goals as goal
use Rattle.quoting.proofs.run.transcript.Goals.{in-Some+in_ok-put_replies, in_default}

pub returns-clause-bytes : goal.returns-clause-bytes
returns-clause-bytes c =
    let o = c.open-console.ensures in
    let first = line_bytes c.open-console.result.0 in
    let put = c.in_ok-text.ensures.ok in
    elim c.match-console-2.branch [
      | in-Some+in_ok-put_replies w ↦
          going c.args.file.now c.args.input.now first _ _ o w.in-Some.console w.in-Some.is
          (ap string_bytes w.text-is ∙ w.in_ok-put_replies.ensures ∙ ap (λ (bs : List ℕ). bs ++ bytes_of (replies 1 (held w.in-Some.console) (lines_of c.args.input.now))) put)
      | in_default w ↦ ended c.args.file.now c.args.input.now first _ _ o w.in_default.is (ap string_bytes w.text-is ∙ put)
    ]
