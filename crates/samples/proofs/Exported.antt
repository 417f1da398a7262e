-- The export's lists stand for its table: each place computes.
use Rattle.std.proofs.Common.{◌≡◌, ℕ, zero, suc, ◌<◌, refl, arith}
use Rattle.table.specs.Table.{Table}
use Rattle.sources.specs.Rows.{list_table}
use Rattle.samples.specs.Export.{export_table, SameInside}
use Rattle.samples.specs.declared.day.TheConstants.{STATES, CHOICES, BRANCHES}

abbrev pub listed : Table
listed = list_table 4 STATES CHOICES BRANCHES

-- what holds of each number below five, two, three or one
five : (P : ℕ → Type 0) → P 0 → P 1 → P 2 → P 3 → P 4 → (s : ℕ) → s < 5 → P s
five P a b c d e zero l = a
five P a b c d e (suc zero) l = b
five P a b c d e (suc (suc zero)) l = c
five P a b c d e (suc (suc (suc zero))) l = d
five P a b c d e (suc (suc (suc (suc zero)))) l = e
five P a b c d e (suc (suc (suc (suc (suc s))))) l = absurd (omega arith)

two : (P : ℕ → Type 0) → P 0 → P 1 → (c : ℕ) → c < 2 → P c
two P a b zero l = a
two P a b (suc zero) l = b
two P a b (suc (suc c)) l = absurd (omega arith)

three : (P : ℕ → Type 0) → P 0 → P 1 → P 2 → (b : ℕ) → b < 3 → P b
three P x y z zero l = x
three P x y z (suc zero) l = y
three P x y z (suc (suc zero)) l = z
three P x y z (suc (suc (suc b))) l = absurd (omega arith)

one : (P : ℕ → Type 0) → P 0 → (b : ℕ) → b < 1 → P b
one P x zero l = x
one P x (suc b) l = absurd (omega arith)

abbrev Branch : ℕ → ℕ → ℕ → Type 0
Branch s c b = listed.branch s c b ≡ export_table.branch s c b

abbrev Choice : ℕ → ℕ → Type 0
Choice s c =
    (listed.reward s c ≡ export_table.reward s c)
    × (listed.branches s c ≡ export_table.branches s c)
    × ((b : ℕ) → b < export_table.branches s c → Branch s c b)

choice : (s : ℕ) → s < 5 → (c : ℕ) → c < export_table.choices s → Choice s c
choice =
    five (λ s. (c : ℕ) → c < export_table.choices s → Choice s c)
    (two (Choice 0) (refl, refl, two (Branch 0 0) refl refl) (refl, refl, one (Branch 0 1) refl))
    (two (Choice 1) (refl, refl, three (Branch 1 0) refl refl refl) (refl, refl, one (Branch 1 1) refl))
    (two (Choice 2) (refl, refl, three (Branch 2 0) refl refl refl) (refl, refl, one (Branch 2 1) refl))
    (two (Choice 3) (refl, refl, three (Branch 3 0) refl refl refl) (refl, refl, one (Branch 3 1) refl))
    (two (Choice 4) (refl, refl, two (Branch 4 0) refl refl) (refl, refl, one (Branch 4 1) refl))

pub same_inside : SameInside listed export_table
same_inside = record {
  states = refl;
  denominator = refl;
  choices = five (λ s. listed.choices s ≡ export_table.choices s) refl refl refl refl refl;
  reward = λ s c l m. (choice s l c m).0;
  branches = λ s c l m. (choice s l c m).1;
  branch = λ s c b l m o. (choice s l c m).2 b o;
}
