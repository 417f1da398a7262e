-- What an engine holds, and the answer that a call's result stands for.
use Rattle.std.specs.Prelude.{ℕ, List, Some, None, Option, Ok, Err, Result}
use Rattle.table.specs.declared.fault.Fault.{Fault}
use Rattle.history.specs.Calls.{State, idle, loaded}
use Rattle.history.specs.Answers.{Answer, planned}
use Rattle.book.specs.Desks.{desk_table, desk_book}
use Rattle.book.specs.declared.desk.Desk.{Desk}
use Rattle.engine.specs.declared.engine.Engine.{Engine}

-- the fault of the open, or a table that is loaded, with its book
abbrev pub held_state : Option Fault → Desk → State
held_state (Some e) d = idle e
held_state None d = loaded (desk_table d) (desk_book d)

abbrev pub state_of : Engine → State
state_of e = held_state e.idle e.desk

-- the answer of a result: what its value tells, or what its error does
abbrev pub answer_by : {A E : Type 0} → (A → Answer) → (E → Answer) → Result A E → Answer
answer_by value error (Ok x) = value x
answer_by value error (Err e) = error e

-- what the caller's list holds then: what a plan has written, and after every other answer what it held
abbrev pub list_after : Answer → List ℕ → List ℕ
list_after (planned written) list = written
list_after _ list = list
