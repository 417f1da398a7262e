-- The number of each refusal, and its place in the table where it has one.
use Rattle.table.specs.Faults.{noted, notice_of}
use Rattle.table.specs.declared.fault.Notice.{Notice}
use Rattle.history.specs.declared.refusal.Refusal.{Refusal}
use Rattle.history.specs.declared.refusal.Refusal.TheVariants.{Table, Idle, Component, State, Count, Room}

abbrev pub refusal_notice : Refusal → Notice
refusal_notice (Table e) = notice_of e
refusal_notice Idle = noted 21 0 0 0
refusal_notice Component = noted 22 0 0 0
refusal_notice State = noted 23 0 0 0
refusal_notice Count = noted 24 0 0 0
refusal_notice Room = noted 25 0 0 0
