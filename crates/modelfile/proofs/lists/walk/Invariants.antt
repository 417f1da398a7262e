use Rattle.std.proofs.Common.{◌≡◌, ◌-◌, ◌≤◌, length}
use Rattle.modelfile.specs.File.{read_file}
use Rattle.modelfile.specs.Steps.{cursor_of}
use Rattle.modelfile.specs.Filling.{filled, tally_of, SameLists}
use Rattle.modelfile.proofs.Walk.{finish}
use Rattle.modelfile.proofs.WalkEnds.{Under}
use Rattle.modelfile.proofs.lists.walk.Given as goal

-- what is left leads to the lists of the whole file, and no count passes the reader's place
abbrev pub invariant-loop-item : goal.invariant-loop-item
invariant-loop-item l =
    (l.reader.cursor.file.now ≡ l.file)
    × (finish l.file (cursor_of l.reader) (tally_of l.lists)
    ≡ filled (read_file l.file) l.initial.lists.states.now l.initial.lists.choices.now l.initial.lists.branches.now)
    × Under l.lists.used (cursor_of l.reader).at
    × ((cursor_of l.reader).at ≤ length l.file)
    × (length l.file ≤ 65536)
    × SameLists l.initial.lists l.lists

abbrev pub decreases-loop-item : goal.decreases-loop-item
decreases-loop-item l = length l.file - (cursor_of l.reader).at
