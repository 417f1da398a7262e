-- The law of a file.
use Rattle.std.proofs.Common.{ℕ, List}
use Rattle.modelfile.specs.Law.{FileLaw}
use Rattle.modelfile.proofs.Accepted.{Small}
use Rattle.modelfile.proofs.AcceptedFile.{file_reads}
use Rattle.modelfile.proofs.Refused.{placed_inside, placed_begun, trailing_whole}
use Rattle.modelfile.proofs.RestoredFile.{file_restores}
use Rattle.modelfile.proofs.Tables.{same_table}

pub file_law : (file : List ℕ) → Small file → FileLaw file
file_law file small = record {
  exact = λ m h. let r = file_reads file small m h in (r.0, r.1);
  restored = file_restores;
  described = same_table;
  inside = placed_inside file small;
  begun = placed_begun file small;
  whole = trailing_whole file small;
}
