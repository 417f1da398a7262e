-- The least and the largest reward that a model keeps are those of its table.
use Rattle.std.proofs.Common.{◌≡◌, ℤ, sym, subst, arith}
use Rattle.std.proofs.lemmas.Int.{ints}
use Rattle.table.specs.Table.{Table}
use Rattle.table.specs.Limits.{Lawful}
use Rattle.model.specs.Held.{table_of}
use Rattle.model.specs.Loads.{LeastReward, LargestReward, Loaded}
use Rattle.model.specs.declared.model.Model.{Model}
use Rattle.rules.specs.Setting.{least_reward, largest_reward}
use Rattle.rules.proofs.Sides.{rewards_between, least_attained, largest_attained}

module _ (T : Table) (L : Lawful T) (r : ℤ) where
  least_of : LeastReward T r → r ≡ least_reward T
  least_of a =
      let found = a.earned in
      let w = least_attained T L in
      let low = (rewards_between T found.0 found.1 found.2 found.3).0 in
      let high = a.bound w.0 w.1 w.2 w.3 in
      let e = found.4 in
      let f = w.4 in
      omega (arith, ints)

  largest_of : LargestReward T r → r ≡ largest_reward T
  largest_of a =
      let found = a.earned in
      let w = largest_attained T L in
      let high = (rewards_between T found.0 found.1 found.2 found.3).1 in
      let low = a.bound w.0 w.1 w.2 w.3 in
      let e = found.4 in
      let f = w.4 in
      omega (arith, ints)

module _ (T : Table) (m : Model) (l : Loaded T m) where
  pub least_found : m.least ≡ least_reward (table_of m)
  least_found = subst (λ (S : Table). m.least ≡ least_reward S) (sym l.same) (least_of T l.lawful m.least l.least)

  pub largest_found : m.largest ≡ largest_reward (table_of m)
  largest_found = subst (λ (S : Table). m.largest ≡ largest_reward S) (sym l.same) (largest_of T l.lawful m.largest l.largest)
