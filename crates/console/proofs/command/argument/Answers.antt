use Rattle.std.proofs.Common.{◌≡◌, ℕ, take, ap, ◌∙◌, arith}
use Rattle.std.proofs.lemmas.List.Sums.{prefix_len-le-length}
use Rattle.std.specs.List.{take_while}
use Rattle.std.specs.Char.{is_ascii_digit}
use Rattle.std.specs.Str.{all_ascii_digits}
use Rattle.console.proofs.Figures.{digits_run}
use Rattle.console.proofs.command.argument.Goals as goal

pub split_at-requires : goal.split_at-requires
split_at-requires c = omega (arith, prefix_len-le-length is_ascii_digit c.in_ok-text.text.now)

pub number-requires : goal.number-requires
number-requires c =
    let run : c.split_at.result.0.now ≡ take_while is_ascii_digit c.in_ok-text.text.now = c.split_at.ensures.front ∙ ap (λ (n : ℕ). take n c.in_ok-text.text.now) c.digit_count.ensures in
    ap all_ascii_digits run ∙ digits_run c.in_ok-text.text.now
