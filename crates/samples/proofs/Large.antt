-- The three tables keep all limits, and lists that hold all states of one stand for it.
use Rattle.std.proofs.Common.{◌≡◌, ℕ, ◌*◌, ◌+◌, ◌<◌, cond, eqb, vec_items, arith}
use Rattle.sources.specs.Rows.{owned_table}
use Rattle.sources.specs.declared.owned.OwnedList.{OwnedList}
use Rattle.table.specs.Limits.{Lawful}
use Rattle.model.specs.Copy.{StatesCopied}
use Rattle.model.proofs.Copies.{copied_rows}
use Rattle.samples.specs.declared.tables.Weights.{Weights}
use Rattle.samples.specs.Tables.{numbered, scattered, leaving, stepping, largest_table, exits_table, chain_table}
use Rattle.samples.proofs.Numbered.{zero_outside, numbered_lawful}
use Rattle.samples.proofs.Fair.{fair_scattered, fair_leaving, fair_stepping}

pub largest_lawful : (spread : ℕ) (w : Weights) → spread < 65536 → Lawful (largest_table spread w)
largest_lawful spread w h = numbered_lawful spread (λ s. 8) (scattered w) (omega arith) (λ s c l m. fair_scattered w (16 * s + c))

pub exits_lawful : (spread : ℕ) (w : Weights) → spread < 65536 → Lawful (exits_table spread w)
exits_lawful spread w h = numbered_lawful spread (λ s. 8) (leaving w) (omega arith) (λ s c l m. fair_leaving w (16 * s + c))

pub chain_lawful : (spread : ℕ) → spread < 65536 → Lawful (chain_table spread)
chain_lawful spread h = numbered_lawful spread (λ s. cond (eqb s 255) 1 2) stepping (omega arith) fair_stepping

pub stands : (spread : ℕ) (count : ℕ → ℕ) (branch : ℕ → ℕ → ℕ × ℕ) (o : OwnedList) → Lawful (numbered spread count branch)
    → o.denominator ≡ 65536 → StatesCopied (numbered spread count branch) 256 (vec_items o.states) (vec_items o.choices) (vec_items o.branches)
    → owned_table o ≡ numbered spread count branch
stands spread count branch o law e p =
    copied_rows (numbered spread count branch) law (zero_outside spread count branch) (vec_items o.states) (vec_items o.choices) (vec_items o.branches) p o.denominator e
