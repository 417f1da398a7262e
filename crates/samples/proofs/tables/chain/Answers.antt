use Rattle.std.proofs.Common.{◌≡◌, ℕ, ◌+◌, ◌/◌, cond, eqb, ◌∙◌, sym, arith, rules}
use Rattle.samples.specs.Tables.{numbered, stepping}
use Rattle.samples.proofs.Added.{states_none}
use Rattle.samples.proofs.Fair.{many_before, many_last, stepping_before, stepping_last}
use Rattle.samples.proofs.Large.{chain_lawful, stands}
use Rattle.samples.proofs.tables.chain.Goals as goal

pub returns-clause-table : goal.returns-clause-table
returns-clause-table c =
    let e = c.empty-table.ensures in
    let count : ℕ → ℕ = λ s. cond (eqb s 255) 1 2 in
    stands c.args.spread count stepping c.add_states-2.new.table (chain_lawful c.args.spread (omega arith))
    (c.add_states-2.ensures.denominator ∙ c.add_states.ensures.denominator ∙ e.denominator)
    (c.in_ok-add_states-2.ensures.rows count stepping
    (record {
      many = λ s l h. many_last s l h;
      same = λ n l h b r k given. (let q : r ≡ (255, 65536) = search rules in q ∙ sym (stepping_last n b l h));
    })
    (c.in_ok-add_states.ensures.rows count stepping
    (record {
      many = λ s l h. many_before s h;
      same = λ n l h b r k given. (let q : r ≡ (cond (eqb b 0) 0 (n / 16 + 1), 32768) = search rules in q ∙ sym (stepping_before n b h));
    })
    (states_none (numbered c.args.spread count stepping) c.empty-table.result e)))
