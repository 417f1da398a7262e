-- Fields of a file: numbers, little endian, and runs of text.
use Rattle.std.specs.Prelude.{ℕ, zero, suc, ◌+◌, ◌*◌, ◌/◌, cond, List, [], ◌∷◌, length, take, drop, ℤ, Ok, Err, nat_le}
use Rattle.std.specs.Int.{w32}
use Rattle.std.proofs.Common.{to_z}
use Rattle.std.specs.Borrow.{Bor}
use Rattle.modelfile.specs.Results.{Read, and_then}
use Rattle.modelfile.specs.declared.fault.ByteFault.{ByteFault}
use Rattle.modelfile.specs.declared.fault.ByteFault.TheVariants.{Lacking}

-- the field of k bytes that starts at p; where bytes lack, the fault names p
abbrev pub field : ℕ → List ℕ → ℕ → Read (List ℕ) ByteFault
field k file p = cond (nat_le (p + k) (length file)) (Ok (take k (drop p file), p + k)) (Err (Lacking p))

-- the number that bytes stand for, the lowest byte first
abbrev pub little_endian : List ℕ → ℕ
little_endian [] = 0
little_endian (b ∷ bs) = b + 256 * little_endian bs

-- a number of k bytes
abbrev pub number : ℕ → List ℕ → ℕ → Read ℕ ByteFault
number k file p = and_then (field k file p) (λ f. Ok (little_endian f.0, f.1))

-- a signed number of 4 bytes
abbrev pub signed : List ℕ → ℕ → Read ℤ ByteFault
signed file p = and_then (number 4 file p) (λ n. Ok (to_z w32 n.0, n.1))

-- a text: its length in one byte, then that many bytes
abbrev pub text : List ℕ → ℕ → Read (List ℕ) ByteFault
text file p = and_then (number 1 file p) (λ n. field n.0 file n.1)

-- a branch: its successor and its weight
abbrev pub branch : List ℕ → ℕ → Read (ℕ × ℕ) ByteFault
branch file p = and_then (number 2 file p) (λ u. and_then (number 4 file u.1) (λ w. Ok ((u.0, w.0), w.1)))

-- k branches, one after the other
abbrev pub branch_run : ℕ → List ℕ → ℕ → Read (List (ℕ × ℕ)) ByteFault
branch_run zero file p = Ok ([], p)
branch_run (suc k) file p =
    and_then (branch file p) (λ b. and_then (branch_run k file b.1) (λ bs. Ok (b.0 ∷ bs.0, bs.1)))

-- the branches of a choice: how many in one byte, then each
abbrev pub branches : List ℕ → ℕ → Read (List (ℕ × ℕ)) ByteFault
branches file p = and_then (number 1 file p) (λ n. branch_run n.0 file n.1)

-- the branch that 6 bytes hold
abbrev pub branch_of : List ℕ → ℕ × ℕ
branch_of bytes = (little_endian (take 2 bytes), little_endian (drop 2 bytes))

-- the first k branches that bytes hold, 6 bytes each
abbrev pub branch_list : ℕ → List ℕ → List (ℕ × ℕ)
branch_list zero bytes = []
branch_list (suc k) bytes = branch_of (take 6 bytes) ∷ branch_list k (drop 6 bytes)

-- the branches that a borrowed run of bytes holds
abbrev pub branches_in : Bor (List ℕ) → List (ℕ × ℕ)
branches_in run = branch_list (length run.now / 6) run.now
