-- The start of a book, place by place.
use Rattle.std.specs.Prelude.{◌≡◌, ℕ, cond, Some, None, vec_len}
use Rattle.table.specs.Table.{Table}
use Rattle.components.specs.Below.{first}
use Rattle.components.specs.Inside.{inside}
use Rattle.components.specs.Nodes.{nodes, components, in_component, lowest_of, component_at}
use Rattle.rules.specs.Setting.{setting_of}
use Rattle.rules.specs.Book.{start}
use Rattle.rules.specs.declared.exit.Exit.{Exit}
use Rattle.rules.specs.declared.exit.Exit.TheVariants.{Stay, Leave}
use Rattle.book.specs.Books.{book_of, HasRoom, Kept}
use Rattle.book.specs.declared.book.Book.{Book}

-- the choice that `start` records of a state: its first inside choice, and 0 of a lone state
abbrev pub first_inside : Table → ℕ → ℕ
first_inside T s = cond (in_component T s) (first (T.choices s) (inside T s)) 0

-- the plan of a node in `start`: a component stays, a lone state plays its choice 0
abbrev pub first_exit : Table → ℕ → Exit
first_exit T v = elim (component_at T v) [ Some i ↦ Stay | None ↦ Leave (lowest_of T v) 0 ]

-- each list has the places that it needs, whatever stands there, and room for every lawful table; a book that is `Kept` has them
pub record Sized (T : Table) (b : Book) : Type 0 where
  pub vector : vec_len b.vector ≡ T.states
  pub recorded : vec_len b.recorded ≡ T.states
  pub lo : vec_len b.lo ≡ components T
  pub hi : vec_len b.hi ≡ components T
  pub x : vec_len b.x ≡ nodes T
  pub y : vec_len b.y ≡ nodes T
  pub plan : vec_len b.plan ≡ nodes T
  pub halfway : vec_len b.halfway ≡ T.states
  pub marks : vec_len b.marks ≡ T.states
  pub room : HasRoom b

-- the book is the start, and is `Kept`
pub record Started (T : Table) (b : Book) : Type 0 where
  pub start : book_of b ≡ start (setting_of T)
  pub kept : Kept T b
