-- The numbers of a vector are small.
use Rattle.std.proofs.Common.{ℕ, ◌^◌, ◌<◌, ◌≤◌, length, get_or, pos, arith}
use Rattle.std.proofs.lemmas.Int.{ints}
use Rattle.book.specs.Vectors.{vector_table, numbers}
use Rattle.book.specs.declared.vector.Vector.{Vector}
use Rattle.book.proofs.RunSums.{natural_is}

pub numbers_small : (v : Vector) (s : ℕ) → s < (vector_table v).states → numbers v s ≤ 2 ^ 46
numbers_small v s h =
    let z = v.size in
    let l : s < length v.numbers.now = omega arith in
    let a = natural_is (get_or v.numbers.now s (pos 0)) (v.natural s l) in
    let b = v.capped s l in
    omega (arith, ints)
