-- The walk over the export's table computes.
use Rattle.std.proofs.Common.{◌≡◌, ℕ, List, ap, ◌∙◌, sym, subst}
use Rattle.table.specs.Table.{Table}
use Rattle.table.specs.Walk.{fault_of}
use Rattle.sources.specs.Rows.{list_table}
use Rattle.sources.specs.declared.list.StateRow.{StateRow}
use Rattle.sources.specs.declared.list.ChoiceRow.{ChoiceRow}
use Rattle.samples.specs.Export.{export_table, SameInside}
use Rattle.samples.proofs.Exported.{same_inside}
use Rattle.samples.proofs.day.export.Goals as goal

-- equal lists stand for the same table
same : (d e : ℕ) (s t : List StateRow) (c k : List ChoiceRow) (b r : List (ℕ × ℕ))
    → d ≡ e → s ≡ t → c ≡ k → b ≡ r → list_table d s c b ≡ list_table e t k r
same d e s t c k b r p q m n =
    ap (λ (x : ℕ). list_table x s c b) p
    ∙ ap (λ (x : List StateRow). list_table e x c b) q
    ∙ ap (λ (x : List ChoiceRow). list_table e t x b) m
    ∙ ap (λ (x : List (ℕ × ℕ)). list_table e t k x) n

pub returns-clause-fault : goal.returns-clause-fault
returns-clause-fault c = let e = c.new.ensures in ap fault_of (same _ _ _ _ _ _ _ _ e.denominator e.states e.choices e.branches)

pub returns-clause-table : goal.returns-clause-table
returns-clause-table c =
    let e = c.new.ensures in
    subst (λ (T : Table). SameInside T export_table) (sym (same _ _ _ _ _ _ _ _ e.denominator e.states e.choices e.branches)) same_inside
