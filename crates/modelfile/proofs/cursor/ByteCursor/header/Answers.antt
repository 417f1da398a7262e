use Rattle.std.proofs.Common.{refl, arith}
use Rattle.modelfile.proofs.cursor.ByteCursor.header.Goals as goal

pub bit_map-requires : goal.bit_map-requires
bit_map-requires c = (2, omega arith, refl)
