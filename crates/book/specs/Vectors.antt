-- A vector of a layout.
use Rattle.std.specs.Prelude.{ℕ}
use Rattle.table.specs.Table.{Table}
use Rattle.book.specs.Inside.{vector_of}
use Rattle.book.specs.Layouts.{layout_table}
use Rattle.book.specs.declared.vector.Vector.{Vector}

-- the table of its layout, and the vector that its numbers stand for
abbrev pub vector_table : Vector → Table
vector_table v = layout_table v.layout.now

abbrev pub numbers : Vector → ℕ → ℕ
numbers v = vector_of v.numbers.now
