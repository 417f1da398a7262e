-- A table is unbroken exactly if it is lawful, and so the table of a model is lawful.
use Rattle.std.proofs.Common.{◌≡◌, ℕ, true, Some, None, Option, refl, ap, arith}
use Rattle.table.specs.Table.{Table}
use Rattle.table.specs.Limits.{Lawful}
use Rattle.table.specs.Walk.{fault_of}
use Rattle.table.specs.declared.fault.Fault.{Fault}
use Rattle.table.proofs.WalkLaw.{walk_law}
use Rattle.model.specs.Unbroken.{faultless, Unbroken}
use Rattle.model.specs.Held.{table_of}
use Rattle.model.specs.declared.model.Model.{Model}

pub faultless_none : (o : Option Fault) → faultless o ≡ true → o ≡ None
faultless_none None e = refl
faultless_none (Some x) e = let z : ◌≡◌ {A = ℕ} 0 1 = cc in absurd (omega arith)

pub unbroken_lawful : (T : Table) → Unbroken T → Lawful T
unbroken_lawful T e = (walk_law T).lawful.0 (faultless_none (fault_of T) e)

pub lawful_unbroken : (T : Table) → Lawful T → Unbroken T
lawful_unbroken T law = ap faultless ((walk_law T).lawful.1 law)

pub model_lawful : (m : Model) → Lawful (table_of m)
model_lawful m = unbroken_lawful (table_of m) m.lawful
