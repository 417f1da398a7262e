-- What the code's numbers of a table keep, as a test: each one passes exactly where the fact named above it holds.
use Rattle.std.specs.Prelude.{ℕ, Bool, true, ◌&&◌, length, ℤ, pos, vec_items, vec_len, vec_capacity, ◌==◌, int_le, nat_le, nat_lt, slice_index_or}
use Rattle.table.specs.Table.{Table}
use Rattle.components.specs.Below.{every, any}
use Rattle.components.specs.Nodes.{nodes, node_of, components, states_of}
use Rattle.rules.specs.Choosing.{at, at_z}
use Rattle.rules.specs.Setting.{Setting, setting_of, bottom, top}
use Rattle.rules.specs.Book as rules
use Rattle.rules.specs.declared.exit.Exit.{Exit}
use Rattle.rules.specs.declared.exit.Exit.TheVariants.{Stay, Leave}
use Rattle.book.specs.Books.{book_of}
use Rattle.book.specs.declared.book.Book.{Book}

-- `Lengths`
abbrev pub lengths : Setting → rules.Book → Bool
lengths M B =
    (length B.vector == M.table.states) && (length B.recorded == M.table.states
    && (length B.lo == components M.table && (length B.hi == components M.table
    && (length B.x == nodes M.table && (length B.y == nodes M.table
    && length B.plan == nodes M.table)))))

-- `VectorFits`
abbrev pub vector_fits : Setting → (ℕ → ℕ) → Bool
vector_fits M t =
    every M.table.states (λ s. nat_le (t s) M.cap)
    && every (components M.table) (λ k. any M.table.states (λ s. states_of M.table k s && t s == 0))

-- `RecordedFits`
abbrev pub recorded_fits : Setting → (ℕ → ℕ) → Bool
recorded_fits M r = every M.table.states (λ s. nat_lt (r s) (M.table.choices s))

-- `Within`
abbrev pub within : Setting → ℕ → (ℕ → ℤ) → Bool
within M n z = every n (λ i. int_le (bottom M) (z i) && int_le (z i) (top M))

-- `ExitFits`
abbrev pub exit_fits : Setting → ℕ → Exit → Bool
exit_fits M v Stay = true
exit_fits M v (Leave t c) = nat_lt t M.table.states && (node_of M.table t == v && nat_lt c (M.table.choices t))

-- `Fit`
abbrev pub fits : Setting → rules.Book → Bool
fits M B =
    lengths M B && (vector_fits M (at B.vector) && (recorded_fits M (at B.recorded)
    && (within M (components M.table) (at_z B.lo) && (within M (components M.table) (at_z B.hi)
    && (within M (nodes M.table) (at_z B.x) && (within M (nodes M.table) (at_z B.y)
    && every (nodes M.table) (λ v. exit_fits M v (rules.exit_at B.plan v))))))))

-- `HasRoom`
abbrev pub has_room : Book → Bool
has_room b =
    nat_le 256 (vec_capacity b.vector) && (nat_le 256 (vec_capacity b.recorded)
    && (nat_le 256 (vec_capacity b.lo) && (nat_le 256 (vec_capacity b.hi)
    && (nat_le 256 (vec_capacity b.x) && (nat_le 256 (vec_capacity b.y)
    && (nat_le 256 (vec_capacity b.plan) && (nat_le 256 (vec_capacity b.halfway)
    && nat_le 256 (vec_capacity b.marks))))))))

-- `Kept`
unfoldable pub keeps : Table → Book → Bool
keeps T b =
    fits (setting_of T) (book_of b)
    && (every T.states (λ s. int_le (pos 0) (slice_index_or (vec_items b.vector) s (pos 0)))
    && (vec_len b.halfway == T.states && (vec_len b.marks == T.states && has_room b)))
