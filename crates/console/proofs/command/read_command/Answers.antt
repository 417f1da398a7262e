use Rattle.std.proofs.Common.{rules}
use Rattle.console.proofs.Spelling.{command_law}
use Rattle.console.proofs.command.read_command.Goals as goal

pub returns : goal.returns
returns c = record { reads = search rules; law = command_law c.args.line.now }
