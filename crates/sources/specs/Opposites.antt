-- The table with each reward negated: what one side of a programme earns, the other side pays.
use Rattle.std.specs.Prelude.{cond, ℤ, pos, neg_ℤ, int_lt}
use Rattle.table.specs.Table.{Table}

-- the negated reward, kept within 32 bits: -2^31 becomes 2^31 - 1
abbrev pub negated : ℤ → ℤ
negated z = cond (int_lt (pos 2147483647) (neg_ℤ z)) (pos 2147483647) (neg_ℤ z)

abbrev pub opposite_table : Table → Table
opposite_table T = record {
  states = T.states;
  denominator = T.denominator;
  choices = T.choices;
  reward = λ s c. negated (T.reward s c);
  branches = T.branches;
  branch = T.branch;
}
