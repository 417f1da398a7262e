-- A refine and sweeps keep that a book fits.
use Rattle.std.proofs.Common.{ℕ, zero, suc, ◌<◌, true, false}
use Rattle.table.specs.Limits.{Lawful}
use Rattle.components.specs.Nodes.{nodes, components}
use Rattle.rules.specs.Setting.{Setting}
use Rattle.rules.specs.Choosing.{at}
use Rattle.rules.specs.Book.{Book}
use Rattle.rules.specs.Refine.{Refined, narrow, held, step, refine}
use Rattle.rules.specs.Sweep.{Swept, update, updates, sweep, still, sweeps}
use Rattle.rules.specs.Fit.{Fit}
use Rattle.rules.proofs.Steps.{step_fit}
use Rattle.rules.proofs.Updates.{update_fit}

-- what a step keeps a refine keeps, and what a sweep keeps sweeps keep
pub refine_every : (M : Setting) (k : ℕ) (P : Book → Type 0) → ((B : Book) → P B → P (step M k B))
    → (n width : ℕ) (B : Book) → P B → P (refine M k n width B).book
unfolding refine
refine_every M k P keeps zero width B x = x
refine_every M k P keeps (suc n) width B x =
    let one = keeps B x in
    let more = refine_every M k P keeps n width (step M k B) one in
    elim (narrow width k B) as (λ a. P (elim a as (λ _. Refined) [
      | true ↦ record { book = B; made = 0 }
      | false ↦ elim (held M (at B.vector) k) [
        | true ↦ record { book = step M k B; made = 1 }
        | false ↦ (let r = refine M k n width (step M k B) in record { book = r.book; made = suc r.made })
      ]
    ]).book) [
      | true ↦ x
      | false ↦ elim (held M (at B.vector) k) as (λ a. P (elim a as (λ _. Refined) [
        | true ↦ record { book = step M k B; made = 1 }
        | false ↦ (let r = refine M k n width (step M k B) in record { book = r.book; made = suc r.made })
      ]).book) [ true ↦ one | false ↦ more ]
    ]

pub updates_every : (M : Setting) (P : Book → Type 0) → ((v : ℕ) (B : Book) → P B → P (update M v B))
    → (n : ℕ) (B : Book) → P B → P (updates M n B)
unfolding updates
updates_every M P keeps zero B x = x
updates_every M P keeps (suc n) B x = keeps n (updates M n B) (updates_every M P keeps n B x)

pub sweep_every : (M : Setting) (P : Book → Type 0) → ((v : ℕ) (B : Book) → P B → P (update M v B))
    → (B : Book) → P B → P (sweep M B)
unfolding sweep
sweep_every M P keeps B x = updates_every M P keeps (nodes M.table) B x

pub sweeps_every : (M : Setting) (P : Book → Type 0) → ((v : ℕ) (B : Book) → P B → P (update M v B))
    → (n : ℕ) (B : Book) → P B → P (sweeps M n B).book
unfolding sweeps
sweeps_every M P keeps zero B x = x
sweeps_every M P keeps (suc n) B x =
    let one = sweep_every M P keeps B x in
    let more = sweeps_every M P keeps n (sweep M B) one in
    elim (still M B (sweep M B)) as (λ a. P (elim a as (λ _. Swept) [
      | true ↦ record { book = sweep M B; made = 1 }
      | false ↦ (let r = sweeps M n (sweep M B) in record { book = r.book; made = suc r.made })
    ]).book) [ true ↦ one | false ↦ more ]

module _ (M : Setting) (L : Lawful M.table) where
  pub refine_fit : (k : ℕ) → k < components M.table → (n width : ℕ) (B : Book) → Fit M B → Fit M (refine M k n width B).book
  refine_fit k known n width B S = refine_every M k (Fit M) (step_fit M L k known) n width B S

  pub sweep_fit : (B : Book) → Fit M B → Fit M (sweep M B)
  sweep_fit B S = sweep_every M (Fit M) (update_fit M L) B S

  pub sweeps_fit : (n : ℕ) (B : Book) → Fit M B → Fit M (sweeps M n B).book
  sweeps_fit n B S = sweeps_every M (Fit M) (update_fit M L) n B S
