use Rattle.std.proofs.Common.{◌≡◌, ℕ, true, false, Bool, ◌∙◌, subst, rules, tests}
use Rattle.std.proofs.lemmas.Iterator.{first_from_Range}
use Rattle.table.specs.Table.{Table}
use Rattle.components.specs.Inside.{inside}
use Rattle.book.specs.Layouts.{layout_table}
use Rattle.book.proofs.Layouts.{law}
use Rattle.book.proofs.Searches.{Found}
use Rattle.book.proofs.Starts.{inside_of}
use Rattle.book.proofs.start.first_inside.Goals as goal

pub returns : goal.returns
returns c =
    let T : Table = layout_table c.args.layout.now in
    let s : ℕ = c.args.state in
    let test : ℕ → Bool = inside T s in
    let found : Found c.choices.result test c.find.result =
    first_from_Range _ _ _ c.find.result (λ x. test x ≡ true) (λ x. test x ≡ false) c.find.ensures.ran
    (λ x q k. search (rules, tests)) (λ x q k. search (rules, tests)) in
    c.unwrap_or.ensures ∙ inside_of T (law c.args.layout.now) s c.find.result (subst (λ (n : ℕ). Found n test c.find.result) c.choices.ensures found)
