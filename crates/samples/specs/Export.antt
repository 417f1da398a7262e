-- The table of the day's export.
use Rattle.std.specs.Prelude.{◌≡◌, ℕ, ◌<◌, cond, ◌&&◌, ◌==◌}
use Rattle.table.specs.Table.{Table}
use Rattle.sources.specs.Bands.{band_table}

-- a band of 2 steps either side of the centre, 5 a step to hold and 40 to recentre; staying at state 3 has the weight 1, where the band has 2
abbrev pub export_table : Table
export_table = record (band_table 2 5 40) {
  branch = λ s c b. cond (s == 3 && (c == 0 && b == 1)) (3, 1) ((band_table 2 5 40).branch s c b);
}

-- T has the states and the denominator of U, and is the same at every choice and branch of U
pub record SameInside (T U : Table) : Type 0 where
  pub states : T.states ≡ U.states
  pub denominator : T.denominator ≡ U.denominator
  pub choices : (s : ℕ) → s < U.states → T.choices s ≡ U.choices s
  pub reward : (s c : ℕ) → s < U.states → c < U.choices s → T.reward s c ≡ U.reward s c
  pub branches : (s c : ℕ) → s < U.states → c < U.choices s → T.branches s c ≡ U.branches s c
  pub branch : (s c b : ℕ) → s < U.states → c < U.choices s → b < U.branches s c → T.branch s c b ≡ U.branch s c b
