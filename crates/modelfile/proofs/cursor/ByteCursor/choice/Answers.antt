use Rattle.std.proofs.Common.{refl, arith}
use Rattle.modelfile.proofs.cursor.ByteCursor.choice.Goals as goal

pub bit_map-requires : goal.bit_map-requires
bit_map-requires c = (3, omega arith, refl)
