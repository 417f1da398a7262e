-- What an accepted result says of the results that led to it.
use Rattle.std.proofs.Common.{◌≡◌, ℕ, ◌≤◌, Bool, true, false, cond, leb, List, Ok, Err, Result, refl, ap, ◌∙◌, subst, arith}
use Rattle.std.proofs.lemmas.Bool.{leb-true}
use Rattle.modelfile.specs.Results.{and_then, of_record, of_file}
use Rattle.modelfile.specs.declared.fault.ByteFault.{ByteFault}
use Rattle.modelfile.specs.Bytes.{number}
use Rattle.modelfile.specs.Records.{bit_map}
use Rattle.modelfile.specs.declared.fault.RecordFault.{RecordFault}
use Rattle.modelfile.specs.declared.fault.RecordFault.TheVariants.{UnknownBit}
use Rattle.modelfile.proofs.Fields.{ok_same}

pub err_ok : {A E : Type 0} {e : E} {a : A} → ◌≡◌ {A = Result A E} (Err e) (Ok a) → ⊥
err_ok h = let z : ◌≡◌ {A = ℕ} 0 1 = cc in omega arith

pub then_inv : {A B E : Type 0} (r : Result A E) (next : A → Result B E) {b : B} → and_then r next ≡ Ok b → (a : A) × (r ≡ Ok a) × (next a ≡ Ok b)
then_inv (Ok a) next h = (a, refl, h)
then_inv (Err e) next h = absurd (err_ok h)

pub record_inv : {A : Type 0} (r : Result A ByteFault) {a : A} → of_record r ≡ Ok a → r ≡ Ok a
record_inv (Ok a) h = cc
record_inv (Err e) h = absurd (err_ok h)

pub file_inv : {A : Type 0} (r : Result A RecordFault) {a : A} → of_file r ≡ Ok a → r ≡ Ok a
file_inv (Ok a) h = cc
file_inv (Err e) h = absurd (err_ok h)

-- past a test that refuses where it fails
pub test_inv : {A E : Type 0} (b : Bool) (r : Result A E) (e : E) {a : A} → cond b r (Err e) ≡ Ok a → (b ≡ true) × (r ≡ Ok a)
test_inv true r e h = (refl, h)
test_inv false r e h = absurd (err_ok h)

-- past a test that refuses where it holds
pub end_inv : {A E : Type 0} (b : Bool) (e : E) (a : A) {c : A} → cond b (Err e) (Ok a) ≡ Ok c → (b ≡ false) × (a ≡ c)
end_inv true e a h = absurd (err_ok h)
end_inv false e a h = (refl, cc)

-- a bit map is one byte, of known bits
pub map_inv : (every : ℕ) (file : List ℕ) (p : ℕ) (m : ℕ × ℕ) → bit_map every file p ≡ Ok m → (number 1 file p ≡ Ok m) × (m.0 ≤ every)
map_inv every file p m h =
    let t = then_inv (of_record (number 1 file p)) _ h in
    let known = test_inv (leb t.0.0 every) (Ok t.0) (UnknownBit p) t.2 in
    let same : t.0 ≡ m = ok_same known.1 in (
      record_inv (number 1 file p) (t.1 ∙ ap Ok same),
      subst (λ (v : ℕ × ℕ). v.0 ≤ every) same (leb-true t.0.0 every known.0),
    )
