-- The line of a refusal: E, its number and the places that it has.
use Rattle.std.specs.Prelude.{ℕ, List, [], ◌∷◌, map, pos}
use Rattle.std.specs.Option.{option_to_list}
use Rattle.table.specs.Faults.{notice_of as fault_notice}
use Rattle.table.specs.declared.fault.Fault.{Fault}
use Rattle.table.specs.declared.fault.Notice.{Notice}
use Rattle.modelfile.specs.Faults.{notice_of as file_notice}
use Rattle.modelfile.specs.declared.fault.FileFault.{FileFault}
use Rattle.history.specs.Refusals.{refusal_notice}
use Rattle.history.specs.declared.refusal.Refusal.{Refusal}
use Rattle.history.specs.declared.refusal.Refusal.TheVariants.{Table, Idle, Component, State, Count, Room}
use Rattle.console.specs.Lines.{answer_line}

abbrev pub error_line : ℕ → List ℕ → List ℕ
error_line number places = answer_line 69 (pos number ∷ map pos places)

-- the place of a broken limit: state, choice and branch
abbrev pub limit_places : Notice → List ℕ
limit_places n = n.state ∷ n.choice ∷ n.branch ∷ []

-- a table's broken limit has its place in the table, and a refused command has the number of its line
abbrev pub places_of : ℕ → Refusal → List ℕ
places_of line (Table e) = limit_places (fault_notice e)
places_of line Idle = line ∷ []
places_of line Component = line ∷ []
places_of line State = line ∷ []
places_of line Count = line ∷ []
places_of line Room = line ∷ []

-- a table that breaks a limit
abbrev pub refused_table : Fault → List ℕ
refused_table e = error_line (fault_notice e).number (limit_places (fault_notice e))

-- a refused call
abbrev pub refused_line : ℕ → Refusal → List ℕ
refused_line line e = error_line (refusal_notice e).number (places_of line e)

-- a refused file: its byte place, where it has one
abbrev pub refused_file : FileFault → List ℕ
refused_file e = error_line (file_notice e).number (option_to_list (file_notice e).place)

-- a line that spells no command
abbrev pub unread_line : ℕ → List ℕ
unread_line line = error_line 35 (line ∷ [])
