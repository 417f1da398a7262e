use Rattle.std.proofs.Common.{◌≡◌, ℕ, true, false, Bool, ap, ◌∙◌, rules, tests}
use Rattle.std.proofs.lemmas.Iterator.{first_from_Range}
use Rattle.table.specs.Table.{Table}
use Rattle.components.specs.Below.{first}
use Rattle.book.specs.Layouts.{layout_table}
use Rattle.book.specs.Plays.{inside_into}
use Rattle.book.proofs.Searches.{Found, first_of}
use Rattle.book.proofs.play.Marked.first_into.Goals as goal

pub returns : goal.returns
returns c =
    let T : Table = layout_table c.args.self.now.layout.now in
    let test : ℕ → Bool = inside_into T c.args.self.now.distances.now c.args.mark c.args.state in
    let found : Found c.choices-count.result test c.find.result =
    first_from_Range _ _ _ c.find.result (λ x. test x ≡ true) (λ x. test x ≡ false) c.find.ensures.ran
    (λ x q k. search (rules, tests)) (λ x q k. search (rules, tests)) in
    c.unwrap_or.ensures ∙ first_of c.choices-count.result test c.find.result found ∙ ap (λ (n : ℕ). first n test) c.choices-count.ensures
