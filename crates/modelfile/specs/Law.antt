-- What reading says of a file.
use Rattle.std.specs.Prelude.{◌≡◌, ℕ, ◌≤◌, List, ◌++◌, length, take, Some, Ok, Err}
use Rattle.modelfile.specs.File.{Model, read_file}
use Rattle.sources.specs.Rows.{list_table}
use Rattle.modelfile.specs.Written.{written, ModelFits}
use Rattle.modelfile.specs.Lists.{denominator_of, model_states, model_choices, model_branches}
use Rattle.modelfile.specs.Faults.{notice_of}
use Rattle.modelfile.specs.Described.{model_table, SameTable}
use Rattle.modelfile.specs.declared.fault.FileFault.{FileFault}
use Rattle.modelfile.specs.declared.fault.FileFault.TheVariants.{Trailing}

-- the first p bytes are the beginning of a well-formed file, of any length: more bytes make them what the writer writes for a model that fits
pub record Begins (file : List ℕ) (p : ℕ) : Type 0 where
  pub model : Model
  pub fits : ModelFits model
  pub more : List ℕ
  pub begins : written model ≡ take p file ++ more

pub record FileLaw (file : List ℕ) : Type 0 where
  -- an accepted file is exactly what the writer writes for what was read: each byte is used once,
  -- and what was read determines the file
  pub exact : (m : Model) → read_file file ≡ Ok m → (file ≡ written m) × ModelFits m
  -- the file that the writer writes for a model that fits its fields is read as that model
  pub restored : (m : Model) → ModelFits m → length (written m) ≤ 65536 → read_file (written m) ≡ Ok m
  -- the lists that are made give exactly the table that the model describes
  pub described : (m : Model) → SameTable (list_table (denominator_of m) (model_states m) (model_choices m) (model_branches m)) (model_table m)
  -- a refusal's place is inside the file or just past it
  pub inside : (e : FileFault) → read_file file ≡ Err e → (p : ℕ) → (notice_of e).place ≡ Some p → p ≤ length file
  -- what stands before a refusal's place is the beginning of a well-formed file
  pub begun : (e : FileFault) → read_file file ≡ Err e → (p : ℕ) → (notice_of e).place ≡ Some p → Begins file p
  -- where bytes follow the last state, what stands before them is a well-formed file, and is accepted
  pub whole : (p : ℕ) → read_file file ≡ Err (Trailing p) → (m : Model) × ModelFits m × (take p file ≡ written m) × (read_file (take p file) ≡ Ok m)
