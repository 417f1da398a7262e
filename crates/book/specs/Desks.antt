-- The table and the book that a desk holds, and what its calls answer.
use Rattle.std.specs.Prelude.{◌≡◌, ℕ, ◌^◌, cond, List, ◌++◌, length, drop, ℤ, pos, nat_le, nat_lt}
use Rattle.table.specs.Table.{Table}
use Rattle.table.specs.Limits.{Lawful}
use Rattle.components.specs.Nodes.{components}
use Rattle.rules.specs.Choosing.{tabulate}
use Rattle.rules.specs.Setting.{setting_of}
use Rattle.rules.specs.Book as rules
use Rattle.rules.specs.Refine.{refine}
use Rattle.rules.specs.Play.{play}
use Rattle.rules.specs.Promises.{upper_at, lower_at}
use Rattle.book.specs.Books.{book_of}
use Rattle.book.specs.Layouts.{layout_table}
use Rattle.book.specs.Bounded.{Bounded}
use Rattle.book.specs.declared.desk.Desk.{Desk}

abbrev pub desk_table : Desk → Table
desk_table d = layout_table d.layout

abbrev pub desk_book : Desk → rules.Book
desk_book d = book_of d.book

-- a lawful table at its start
pub record AtStart (T : Table) (d : Desk) : Type 0 where
  pub lawful : Lawful T
  pub same : desk_table d ≡ T
  pub start : desk_book d ≡ rules.start (setting_of T)

-- the steps made in a component; none where there is no such component
unfoldable pub steps_made : Table → rules.Book → ℕ → ℕ → ℕ → ℕ
steps_made T B k n width = cond (nat_lt k (components T)) (refine (setting_of T) k n width B).made 0

-- L and U of a state; 0 where there is no such state
unfoldable pub bounds_at : Table → rules.Book → ℕ → ℤ × ℤ
bounds_at T B s = cond (nat_lt s T.states) (lower_at (setting_of T) B s, upper_at (setting_of T) B s) (pos 0, pos 0)

-- the list with the choice of each state in front; a list that is too short stays as it is
unfoldable pub plan_in : Table → rules.Book → List ℕ → List ℕ
plan_in T B list = cond (nat_le T.states (length list)) (tabulate T.states (play T B) ++ drop T.states list) list

-- small enough that the difference of two fits in 64 bits
abbrev pub SmallBound : ℤ → Type 0
SmallBound z = Bounded (2 ^ 46) z
