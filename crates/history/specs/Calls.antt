-- The calls of an engine and what it holds after each.
use Rattle.std.specs.Prelude.{◌≡◌, ℕ, Bool, cond, ◌&&◌, List, [], ◌∷◌, Some, None, nat_le, nat_lt}
use Rattle.table.specs.Table.{Table}
use Rattle.table.specs.Walk.{fault_of}
use Rattle.table.specs.declared.fault.Fault.{Fault}
use Rattle.components.specs.Nodes.{components}
use Rattle.rules.specs.Setting.{setting_of}
use Rattle.rules.specs.Book.{Book, start}
use Rattle.rules.specs.Refine.{refine}
use Rattle.rules.specs.Sweep.{sweeps}

-- what an engine holds: nothing but the fault of its open, or a table with its book
pub data State : Type 0 where
  idle : Fault → State
  loaded : Table → Book → State

-- a call with its arguments
pub data Call : Type 0 where
  -- another table
  load : Table → Call
  -- the pair of states and components
  standing : Call
  -- a component, a number of steps, a width
  refines : ℕ → ℕ → ℕ → Call
  -- a number of sweeps
  sweeping : ℕ → Call
  close : Call
  -- a state, a width
  quote : ℕ → ℕ → Call
  -- the caller's list
  plan : List ℕ → Call

-- a count is 1 to 1,000
abbrev pub count_within : ℕ → Bool
count_within n = nat_le 1 n && nat_le n 1000

-- a table at its start
abbrev pub fresh : Table → State
fresh T = loaded T (start (setting_of T))

-- an open: a table that breaks a limit leaves an idle engine
unfoldable pub opened : Table → State
opened T =
    elim (fault_of T) [
      | Some e ↦ idle e
      | None ↦ fresh T
    ]

-- a load takes the table's place only if it is accepted
unfoldable pub after_load : Table → State → State
after_load T S =
    elim (fault_of T) [
      | Some e ↦ S
      | None ↦ fresh T
    ]

-- what a loaded engine holds after a call; a refused call leaves it as it was
unfoldable pub after_call : Table → Book → Call → State
after_call T B (load T') = after_load T' (loaded T B)
after_call T B standing = loaded T B
after_call T B (refines k n width) = cond (nat_lt k (components T) && count_within n) (loaded T (refine (setting_of T) k n width B).book) (loaded T B)
after_call T B (sweeping n) = cond (count_within n) (loaded T (sweeps (setting_of T) n B).book) (loaded T B)
after_call T B close = fresh T
after_call T B (quote s width) = loaded T B
after_call T B (plan list) = loaded T B

-- what an idle engine holds after a call: only an accepted load changes it
unfoldable pub after_idle : Fault → Call → State
after_idle e (load T) = after_load T (idle e)
after_idle e standing = idle e
after_idle e (refines k n width) = idle e
after_idle e (sweeping n) = idle e
after_idle e close = idle e
after_idle e (quote s width) = idle e
after_idle e (plan list) = idle e

unfoldable pub next : State → Call → State
next (idle e) c = after_idle e c
next (loaded T B) c = after_call T B c

-- what an engine holds after a list of calls, the oldest first
unfoldable pub run : State → List Call → State
run S [] = S
run S (c ∷ cs) = run (next S c) cs

-- the engine holds a table
abbrev pub IsLoaded : State → Type 0
IsLoaded (idle e) = ⊥
IsLoaded (loaded T B) = Unit {0}

-- the calls that begin anew: a load of a table that keeps all limits, and a close of an engine that holds a table
abbrev pub BeginsAnew : State → Call → Type 0
BeginsAnew S (load T) = fault_of T ≡ None
BeginsAnew S standing = ⊥
BeginsAnew S (refines k n width) = ⊥
BeginsAnew S (sweeping n) = ⊥
BeginsAnew S close = IsLoaded S
BeginsAnew S (quote s width) = ⊥
BeginsAnew S (plan list) = ⊥

-- none of the calls begins anew
abbrev pub Quiet : State → List Call → Type 0
Quiet S [] = Unit {0}
Quiet S (c ∷ cs) = (¬ BeginsAnew S c) × Quiet (next S c) cs
