-- The best inside choice of a state, found choice by choice.
use Rattle.std.specs.Prelude.{ℕ, zero, suc, cond, List, ℤ, pos, None, Option, slice_index_or, unsigned_abs}
use Rattle.table.specs.Table.{Table}
use Rattle.components.specs.Inside.{inside}
use Rattle.rules.specs.Sweep.{better}
use Rattle.rules.specs.declared.exit.Candidate.{Candidate}
use Rattle.rules.specs.declared.exit.Exit.{Exit}
use Rattle.rules.specs.declared.exit.Exit.TheVariants.{Stay, Leave}

-- the best of the inside choices among the first n choices of s, by f
abbrev pub over_inside : Table → (ℕ → ℤ) → ℕ → ℕ → Option Candidate
over_inside T f s zero = None
over_inside T f s (suc n) =
    let b = over_inside T f s n in
    cond (inside T s n) (better b (record { value = f n; exit = Leave s n })) b

-- the vector that a list of integers stands for
abbrev pub vector_of : List ℤ → ℕ → ℕ
vector_of values s = unsigned_abs (slice_index_or values s (pos 0))

-- the choice of an exit that leaves
abbrev pub choice_or : Exit → ℕ → ℕ
choice_or Stay c = c
choice_or (Leave t c) d = c
