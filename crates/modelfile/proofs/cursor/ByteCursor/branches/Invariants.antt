use Rattle.std.proofs.Common.{◌≡◌, ◌+◌, ◌*◌, ◌≤◌, length}
use Rattle.modelfile.proofs.cursor.ByteCursor.branches.Given as goal

-- the branches so far stand one after the other, and the file has their bytes
abbrev pub invariant-loop : goal.invariant-loop
invariant-loop l = (l.self.file.now ≡ l.fn.self.file.now) × (l.self.at ≡ l.first + 6 * l.counter) × (l.self.at ≤ length l.self.file.now)
