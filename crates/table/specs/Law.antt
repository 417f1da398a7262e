-- What the first broken limit says of a table.
use Rattle.std.specs.Prelude.{◌≡◌, ◌↔◌, List, ◌∷◌, ◌++◌, Some, None, Ok, Err, Option, Result}
use Rattle.std.specs.List.{AllByRecursion}
use Rattle.table.specs.Table.{Table}
use Rattle.table.specs.Limits.{Lawful}
use Rattle.table.specs.Faults.{Limit}
use Rattle.table.specs.Walk.{walk, fault_of}
use Rattle.table.specs.declared.fault.Fault.{Fault}

-- e stands on the walk, its limit is broken there, and every limit earlier on the walk holds
pub record FirstOnWalk (T : Table) (e : Fault) : Type 0 where
  pub earlier : List Fault
  pub later : List Fault
  pub place : walk T ≡ earlier ++ (e ∷ later)
  pub held : AllByRecursion (Limit T) earlier
  pub broken : Limit T e → ⊥

-- no limit is the first broken one exactly if the table is lawful; else it is the first on the walk
pub record WalkLaw (T : Table) : Type 0 where
  pub lawful : (fault_of T ≡ None) ↔ Lawful T
  pub first : (e : Fault) → fault_of T ≡ Some e → FirstOnWalk T e

-- a check's result: the first broken limit as an error, or nothing
abbrev pub verdict : Option Fault → Result (Unit {0}) Fault
verdict None = Ok tt
verdict (Some e) = Err e
