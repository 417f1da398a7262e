use Rattle.std.proofs.Common.{ℕ, ◌<◌, length, IfSome, Option, sym, ap, ◌∙◌, subst}
use Rattle.rules.specs.Setting.{setting_of}
use Rattle.book.specs.Layouts.{layout_table}
use Rattle.book.specs.Sweeps.{stay_in}
use Rattle.book.proofs.Layouts.{law}
use Rattle.book.proofs.Exits.{stays_is, stays_known}
use Rattle.book.proofs.leaving.stay.Goals as goal

pub stay_in-requires : goal.stay_in-requires
stay_in-requires c =
    subst (λ (o : Option ℕ). IfSome o (λ i. i < length c.args.bounds.now)) (sym c.component_at.ensures)
    (stays_known (setting_of (layout_table c.args.layout.now)) (law c.args.layout.now) c.args.node (length c.args.bounds.now) c.requires.node c.requires.bounds)

pub returns : goal.returns
returns c =
    c.stay_in.ensures
    ∙ ap (λ (o : Option ℕ). stay_in o c.args.bounds.now) c.component_at.ensures
    ∙ stays_is (setting_of (layout_table c.args.layout.now)) c.args.bounds.now c.args.node
