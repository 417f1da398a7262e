-- A square of bits: 256 bits to a row, in four words of 64.
use Rattle.std.specs.Prelude.{◌≡◌, ℕ, ◌/◌, ◌%◌, ◌^◌, ◌<◌, Bool, ◌&&◌, ◌||◌, List, [], ◌==◌, slice_index, slice_index_or}

-- the bit k of a word
unfoldable pub bit_of : ℕ → ℕ → Bool
bit_of word k = word / 2 ^ k % 2 == 1

-- the bit in a column of a row
abbrev pub bit_in : List ℕ → ℕ → Bool
bit_in row column = bit_of (slice_index row (column / 64)) (column % 64)

-- the bit in a row and column
abbrev pub bit_at : List (List ℕ) → ℕ → ℕ → Bool
bit_at rows row column = bit_in (slice_index_or rows row []) column

-- new is old with the bits of p set in a row
abbrev pub Marks : List (List ℕ) → List (List ℕ) → ℕ → (ℕ → Bool) → Type 0
Marks old new row p = (r t : ℕ) → t < 256 → bit_at new r t ≡ (bit_at old r t || (r == row && p t))
