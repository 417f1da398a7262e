-- What a space holds before its first table.
use Rattle.model.specs.Room.{still_table}
use Rattle.book.specs.Desks.{AtStart}
use Rattle.engine.specs.declared.space.Space.{Space}

-- a table of one state that stays, at its start
abbrev pub IsFresh : Space → Type 0
IsFresh s = AtStart still_table s.desk
