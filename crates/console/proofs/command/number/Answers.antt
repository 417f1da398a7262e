use Rattle.std.proofs.Common.{ℕ, List, ◌∙◌, subst, arith}
use Rattle.std.specs.Str.Parse.{ParsesUnsigned}
use Rattle.console.proofs.Figures.{text_digits, parsed, no_error, ok_value}
use Rattle.console.proofs.command.number.Goals as goal

pub returns-in_err-ok : goal.returns-in_err-ok
returns-in_err-ok c =
    absurd (no_error _ _ c.from_utf8.result c.from_utf8.ensures.cases (λ e bad. bad.0 (text_digits c.args.digits.now c.requires)) c.in_err-ok.ensures.variant)

pub returns : goal.returns
returns c =
    let text = ok_value _ _ c.from_utf8.result c.in_ok-ok.field-0 c.from_utf8.ensures.cases c.in_ok-ok.ensures.value in
    c.ok-2.ensures.value ∙ parsed c.args.digits.now c.parse.result (subst (λ (bs : List ℕ). ParsesUnsigned 64 10 bs c.parse.result) text.0 c.parse.ensures.value.0) c.requires (omega arith)
