-- The book that the code's numbers stand for.
use Rattle.std.specs.Prelude.{◌≡◌, ℕ, ◌<◌, ◌≤◌, map, pos, ◌≤ℤ◌, vec_items, vec_len, vec_capacity, slice_index_or, unsigned_abs}
use Rattle.table.specs.Table.{Table}
use Rattle.rules.specs.Setting.{setting_of}
use Rattle.rules.specs.Book as rules
use Rattle.rules.specs.Fit.{Fit}
use Rattle.book.specs.declared.book.Book.{Book}

abbrev pub book_of : Book → rules.Book
book_of b = record {
  vector = map unsigned_abs (vec_items b.vector);
  recorded = vec_items b.recorded;
  lo = vec_items b.lo;
  hi = vec_items b.hi;
  x = vec_items b.x;
  y = vec_items b.y;
  plan = vec_items b.plan;
}

-- each list has room for every lawful table, which has at most 256 states, nodes and components
abbrev pub HasRoom : Book → Type 0
HasRoom b =
    (256 ≤ vec_capacity b.vector) × (256 ≤ vec_capacity b.recorded) × (256 ≤ vec_capacity b.lo) × (256 ≤ vec_capacity b.hi) × (256 ≤ vec_capacity b.x)
    × (256 ≤ vec_capacity b.y) × (256 ≤ vec_capacity b.plan) × (256 ≤ vec_capacity b.halfway) × (256 ≤ vec_capacity b.marks)

-- what the code's numbers of a table keep: their book fits (`Fit` of the rules), and beside that no number of a vector is negative, there is working space for each state, and
-- each list has room for the next table;
-- `keeps` is the same as a test
pub record Kept (T : Table) (b : Book) : Type 0 where
  pub fit : Fit (setting_of T) (book_of b)
  pub natural : (s : ℕ) → s < T.states → pos 0 ≤ℤ slice_index_or (vec_items b.vector) s (pos 0)
  pub halfway : vec_len b.halfway ≡ T.states
  pub marks : vec_len b.marks ≡ T.states
  pub room : HasRoom b
