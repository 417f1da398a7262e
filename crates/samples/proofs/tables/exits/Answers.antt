use Rattle.std.proofs.Common.{◌≡◌, ◌+◌, ◌%◌, ◌∙◌, sym, refl, arith, rules}
use Rattle.samples.specs.Tables.{share, numbered, onward, leaving}
use Rattle.samples.proofs.Added.{states_none}
use Rattle.samples.proofs.Fair.{leaving_lone, leaving_inner}
use Rattle.samples.proofs.Large.{exits_lawful, stands}
use Rattle.samples.proofs.tables.exits.Goals as goal

pub returns-clause-table : goal.returns-clause-table
returns-clause-table c =
    let e = c.empty-table.ensures in
    let w = c.args.weights in
    stands c.args.spread (λ s. 8) (leaving w) c.add_states-2.new.table (exits_lawful c.args.spread w (omega arith))
    (c.add_states-2.ensures.denominator ∙ c.add_states.ensures.denominator ∙ e.denominator)
    (c.in_ok-add_states-2.ensures.rows (λ s. 8) (leaving w)
    (record {
      many = λ s l h. refl;
      same = λ n l h b r k given. (let q : r ≡ (240 + onward n b % 16, share w b) = search rules in q ∙ sym (leaving_inner w n b l));
    })
    (c.in_ok-add_states.ensures.rows (λ s. 8) (leaving w)
    (record {
      many = λ s l h. refl;
      same = λ n l h b r k given. (let q : r ≡ (onward n b % 256, share w b) = search rules in q ∙ sym (leaving_lone w n b h));
    })
    (states_none (numbered c.args.spread (λ s. 8) (leaving w)) c.empty-table.result e)))

pub returns-in_err-add_states-clause-lawful : goal.returns-in_err-add_states-clause-lawful
returns-in_err-add_states-clause-lawful c = exits_lawful c.args.spread c.args.weights (omega arith)

pub returns-in_err-add_states-2-clause-lawful : goal.returns-in_err-add_states-2-clause-lawful
returns-in_err-add_states-2-clause-lawful c = exits_lawful c.args.spread c.args.weights (omega arith)

pub returns-clause-lawful : goal.returns-clause-lawful
returns-clause-lawful c = exits_lawful c.args.spread c.args.weights (omega arith)
