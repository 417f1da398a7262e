-- Bit maps: a bit outside of the lowest ones.
use Rattle.std.proofs.Common.{◌≡◌, ℕ, ◌+◌, ◌-◌, ◌*◌, ◌/◌, ◌%◌, ◌^◌, ◌<◌, ◌≤◌, sym, ap, ◌∙◌, arith, bit_and}
use Rattle.std.proofs.Math.Nat.{one-le-pow, mod-lt, lt_of_not-le}
use Rattle.std.proofs.lemmas.Nat.{shr_split, div_below}
use Rattle.std.proofs.lemmas.Nat.Bits.{and_high_mask}
use Rattle.modelfile.specs.Records.{LowestBits}

module _ (every map : ℕ) (lowest : LowestBits every) (small : map < 2 ^ 32) where
  high_bits : bit_and map (2 ^ 32 - 1 - every) ≡ map / 2 ^ lowest.0 * 2 ^ lowest.0
  high_bits =
      let k : ℕ = lowest.0 in
      let e : every ≡ 2 ^ k - 1 = lowest.2 in
      let some : 1 ≤ 2 ^ k = one-le-pow k 2 (omega arith) in
      let mask : 2 ^ 32 - 1 - every ≡ 2 ^ 32 - 2 ^ k = omega arith in
      ap (bit_and map) mask ∙ and_high_mask 32 k lowest.1 map small

  -- no other bit is set: the map is at most that of all of them
  pub all_known : bit_and map (2 ^ 32 - 1 - every) ≡ 0 → map ≤ every
  all_known none =
      let k : ℕ = lowest.0 in
      let e : every ≡ 2 ^ k - 1 = lowest.2 in
      let some : 1 ≤ 2 ^ k = one-le-pow k 2 (omega arith) in
      let low : map % 2 ^ k < 2 ^ k = mod-lt map some in
      let parts : map / 2 ^ k * 2 ^ k + map % 2 ^ k ≡ map = shr_split map k in
      let high : map / 2 ^ k * 2 ^ k ≡ 0 = sym high_bits ∙ none in
      omega arith

  none_unknown : map ≤ every → bit_and map (2 ^ 32 - 1 - every) ≡ 0
  none_unknown few =
      let k : ℕ = lowest.0 in
      let e : every ≡ 2 ^ k - 1 = lowest.2 in
      let some : 1 ≤ 2 ^ k = one-le-pow k 2 (omega arith) in
      let below : map / 2 ^ k < 1 = div_below map (2 ^ k) 1 some (omega arith) in
      let none : map / 2 ^ k ≡ 0 = omega arith in
      let nothing : 0 * 2 ^ k ≡ 0 = omega arith in
      high_bits ∙ ap (λ (q : ℕ). q * 2 ^ k) none ∙ nothing

  -- another bit is set: the map is above that of all of them
  pub unknown : (bit_and map (2 ^ 32 - 1 - every) ≡ 0 → ⊥) → every < map
  unknown other = lt_of_not-le (λ few. other (none_unknown few))
