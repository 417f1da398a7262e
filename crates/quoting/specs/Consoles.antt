-- What a console holds.
use Rattle.std.specs.Prelude.{◌≡◌, ℕ, suc, min, List, IfSome, Option}
use Rattle.std.specs.Option.{option_map}
use Rattle.history.specs.Calls.{State}
use Rattle.engine.specs.States.{state_of}
use Rattle.quoting.specs.Runs.{start}
use Rattle.quoting.specs.declared.session.Console.{Console}

-- what its engine holds
abbrev pub held : Console → State
held c = state_of c.engine

-- the number of the line after so many lines; the count stops at 2^64 - 1
abbrev pub counted : ℕ → ℕ
counted lines = min (suc lines) 18446744073709551615

-- the first line of a run, and its console if it goes on: as the file begins it
pub record Opened (file first : List ℕ) (console : Option Console) : Type 0 where
  pub line : first ≡ (start file).0
  pub engine : option_map held console ≡ (start file).1
  pub count : IfSome console (λ c. c.lines ≡ 0)
