use Rattle.std.proofs.Common.{◌≡◌, ℕ, ◌-◌, List, length, take, drop, ap, ◌∙◌, arith, length-drop}
use Rattle.std.proofs.lemmas.List.{take_all}
use Rattle.std.specs.List.{position}
use Rattle.std.specs.Bool.{◌==◌}
use Rattle.console.proofs.InputLines.{lines_law}
use Rattle.console.proofs.LineEnds.{next_fed, next_last}
use Rattle.console.proofs.input.next_line.Goals as goal

-- the slice is the rest of the input
rest : (input : List ℕ) (from : ℕ) → position (λ b. b == 10) (take (length input - from) (drop from input)) ≡ position (λ b. b == 10) (drop from input)
rest input from = ap (position (λ b. b == 10)) (take_all (length input - from) (drop from input) (omega (arith, length-drop from input)))

pub returns-then-from-input-clause-law : goal.returns-then-from-input-clause-law
returns-then-from-input-clause-law c = lines_law c.args.input.now

pub returns-in-Some-clause-finds : goal.returns-in-Some-clause-finds
returns-in-Some-clause-finds c = next_fed c.args.input.now c.args.from c.in-Some.length (omega arith) (c.in-Some.ensures ∙ rest c.args.input.now c.args.from)

pub returns-in-Some-clause-law : goal.returns-in-Some-clause-law
returns-in-Some-clause-law c = lines_law c.args.input.now

pub returns-in-None-clause-finds : goal.returns-in-None-clause-finds
returns-in-None-clause-finds c = next_last c.args.input.now c.args.from (omega arith) (c.in-None.ensures ∙ rest c.args.input.now c.args.from)

pub returns-in-None-clause-law : goal.returns-in-None-clause-law
returns-in-None-clause-law c = lines_law c.args.input.now
