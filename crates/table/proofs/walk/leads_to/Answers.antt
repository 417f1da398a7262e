use Rattle.std.proofs.Common.{ℕ, eqb, refl, ◌∙◌, rules}
use Rattle.std.proofs.lemmas.Iterator.{YieldsList-from_range}
use Rattle.std.proofs.lemmas.Iterator.Search.{any_from_yields_List}
use borrow.Author.Tests.{tests}
use Rattle.table.specs.Table.{Table, successor}
use Rattle.table.proofs.Walks.{any_leads}
use Rattle.table.proofs.walk.leads_to.Goals as goal

pub returns : goal.returns
returns g c =
    let T : Table = g.S.Source.table c.args.source.now in
    any_from_yields_List (λ (b : ℕ). eqb (successor T c.args.state c.args.choice b) c.args.target) _ _ c.any.result c.any.ensures.ran
    (YieldsList-from_range 0 c.args.count c.args.count refl (search rules)) (λ x b q k. search (rules, tests))
    ∙ any_leads T c.args.state c.args.choice c.args.target c.args.count
