-- The writer: the bytes of a model, and which models can be written.
use Rattle.std.specs.Prelude.{ℕ, zero, suc, ◌+◌, ◌/◌, ◌%◌, ◌^◌, ◌<◌, List, [], ◌∷◌, ◌++◌, length, ℤ, Some, None, Option, FitsSigned}
use Rattle.std.specs.Int.{w32}
use Rattle.std.proofs.Common.{of_z}
use Rattle.std.specs.List.{AllByRecursion, flat_map}
use Rattle.modelfile.specs.Records.{ChoiceFields}
use Rattle.modelfile.specs.File.{Model}

-- k bytes of a number, the lowest first
abbrev pub bytes_of : ℕ → ℕ → List ℕ
bytes_of zero n = []
bytes_of (suc k) n = n % 256 ∷ bytes_of k (n / 256)

-- a signed number of 4 bytes
abbrev pub written_signed : ℤ → List ℕ
written_signed z = bytes_of 4 (of_z w32 z)

abbrev pub written_text : List ℕ → List ℕ
written_text t = bytes_of 1 (length t) ++ t

abbrev pub written_branch : ℕ × ℕ → List ℕ
written_branch b = bytes_of 2 b.0 ++ bytes_of 4 b.1

abbrev pub written_branches : List (ℕ × ℕ) → List ℕ
written_branches bs = bytes_of 1 (length bs) ++ flat_map written_branch bs

-- a field that is there is written, and its bit is set
abbrev pub if_there : {A : Type 0} → (A → List ℕ) → Option A → List ℕ
if_there write None = []
if_there write (Some a) = write a

abbrev pub bit_of : {A : Type 0} → ℕ → Option A → ℕ
bit_of bit None = 0
bit_of bit (Some a) = bit

abbrev pub written_choice : ChoiceFields → List ℕ
written_choice c =
    bytes_of 1 (bit_of 1 c.reward + bit_of 2 c.branches + bit_of 4 c.label)
    ++ (if_there written_signed c.reward ++ (if_there written_branches c.branches ++ if_there written_text c.label))

abbrev pub written_state : List ChoiceFields → List ℕ
written_state cs = bytes_of 1 (length cs) ++ flat_map written_choice cs

abbrev pub written : Model → List ℕ
written m =
    (bytes_of 1 (bit_of 1 m.denominator + bit_of 2 m.name)
    ++ (if_there (bytes_of 4) m.denominator ++ (if_there written_text m.name ++ bytes_of 2 (length m.states))))
    ++ flat_map written_state m.states

-- What fits its field: numbers of one, two and four bytes, texts and lists of at most 255 parts.

abbrev pub OneByte : ℕ → Type 0
OneByte n = n < 2 ^ 8

abbrev pub TwoBytes : ℕ → Type 0
TwoBytes n = n < 2 ^ 16

abbrev pub FourBytes : ℕ → Type 0
FourBytes n = n < 2 ^ 32

abbrev pub TextFits : List ℕ → Type 0
TextFits t = OneByte (length t) × AllByRecursion OneByte t

abbrev pub BranchFits : ℕ × ℕ → Type 0
BranchFits b = TwoBytes b.0 × FourBytes b.1

abbrev pub BranchesFit : List (ℕ × ℕ) → Type 0
BranchesFit bs = OneByte (length bs) × AllByRecursion BranchFits bs

-- a field that is there fits
abbrev pub WhereThere : {A : Type 0} → (A → Type 0) → Option A → Type 0
WhereThere P None = Unit {0}
WhereThere P (Some a) = P a

pub record ChoiceFits (c : ChoiceFields) : Type 0 where
  pub reward : WhereThere (FitsSigned w32) c.reward
  pub branches : WhereThere BranchesFit c.branches
  pub label : WhereThere TextFits c.label

abbrev pub StateFits : List ChoiceFields → Type 0
StateFits cs = OneByte (length cs) × AllByRecursion ChoiceFits cs

pub record ModelFits (m : Model) : Type 0 where
  pub denominator : WhereThere FourBytes m.denominator
  pub name : WhereThere TextFits m.name
  pub count : TwoBytes (length m.states)
  pub states : AllByRecursion StateFits m.states
