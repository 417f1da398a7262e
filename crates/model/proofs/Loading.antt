-- What a check's result says of the first broken limit.
use Rattle.std.proofs.Common.{◌≡◌, ℕ, Some, None, Ok, Option, refl, arith}
use Rattle.table.specs.Law.{verdict}
use Rattle.table.specs.declared.fault.Fault.{Fault}

pub verdict_ok : (o : Option Fault) → verdict o ≡ Ok tt → o ≡ None
verdict_ok None e = refl
verdict_ok (Some x) e = let z : ◌≡◌ {A = ℕ} 0 1 = cc in absurd (omega arith)
