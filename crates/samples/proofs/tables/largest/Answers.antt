use Rattle.std.proofs.Common.{◌∙◌, refl, arith, rules}
use Rattle.samples.specs.Tables.{numbered, scattered}
use Rattle.samples.proofs.Added.{states_none}
use Rattle.samples.proofs.Large.{largest_lawful, stands}
use Rattle.samples.proofs.tables.largest.Goals as goal

pub returns-clause-table : goal.returns-clause-table
returns-clause-table c =
    let e = c.empty-table.ensures in
    stands c.args.spread (λ s. 8) (scattered c.args.weights) c.add_states.new.table (largest_lawful c.args.spread c.args.weights (omega arith))
    (c.add_states.ensures.denominator ∙ e.denominator)
    (c.in_ok-add_states.ensures.rows (λ s. 8) (scattered c.args.weights)
    (record { many = λ s l h. refl; same = λ n l h b r k given. search rules })
    (states_none (numbered c.args.spread (λ s. 8) (scattered c.args.weights)) c.empty-table.result e))
