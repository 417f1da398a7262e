-- Lawful tables by a test that computes: the walk over the limits finds no broken one.
use Rattle.std.specs.Prelude.{◌≡◌, Bool, true, false, Some, None, Option}
use Rattle.table.specs.Table.{Table}
use Rattle.table.specs.Walk.{fault_of}
use Rattle.table.specs.declared.fault.Fault.{Fault}

-- there is no fault
abbrev pub faultless : Option Fault → Bool
faultless None = true
faultless (Some e) = false

-- the table is lawful: its walk finds no broken limit
abbrev pub Unbroken : Table → Type 0
Unbroken T = faultless (fault_of T) ≡ true
