use Rattle.std.proofs.Common.{◌≡◌, suc, ◌+◌, ◌≤◌, ◌++◌, length, string_bytes}
use Rattle.console.specs.Inputs.{lines_of}
use Rattle.quoting.specs.Consoles.{held}
use Rattle.quoting.specs.Runs.{replies, bytes_of}
use Rattle.quoting.proofs.run.put_replies.Given as goal

-- what stands there, with the answers that are still to come, is the whole; and there are no more lines than bytes
abbrev pub invariant-loop-line : goal.invariant-loop-line
invariant-loop-line l =
    (string_bytes l.text ++ bytes_of (replies (suc l.console.lines) (held l.console) (lines_of l.line-iterator.rest.now))
    ≡ string_bytes l.initial.text ++ bytes_of (replies 1 (held l.initial.console) (lines_of l.input)))
    × (l.console.lines + length (lines_of l.line-iterator.rest.now) ≤ length l.input)
