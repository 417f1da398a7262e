-- A refine, by what its first step does; bounds are small.
use Rattle.std.proofs.Common.{◌≡◌, ℕ, suc, ◌^◌, ◌<◌, Bool, true, false, List, ℤ, pos, neg_ℤ, ◌≤ℤ◌, refl, ap, ◌∙◌, arith}
use Rattle.table.specs.Table.{Table}
use Rattle.table.specs.Limits.{Lawful}
use Rattle.horizon.specs.Ring.{lin}
use Rattle.rules.specs.Choosing.{at, at_z}
use Rattle.rules.specs.Setting.{Setting, setting_of, least_reward, largest_reward}
use Rattle.rules.specs.Book.{Book}
use Rattle.rules.specs.Refine.{Refined, narrow, held, step, refine}
use Rattle.rules.specs.Fit.{Within}
use Rattle.rules.proofs.Sides.{least_attained, largest_attained}
use Rattle.book.proofs.RunSums.{scaled}

-- numbers between F × rmin and F × rmax are small
pub bounds_small : (T : Table) → Lawful T → (values : List ℤ) (n : ℕ) → Within (setting_of T) n (at_z values) → (k : ℕ) → k < n
    → (neg_ℤ (pos (2 ^ 46)) ≤ℤ at_z values k) × (at_z values k ≤ℤ pos (2 ^ 46))
bounds_small T L values n w k h =
    let a = least_attained T L in
    let b = largest_attained T L in
    let p = a.4 in
    let q = b.4 in
    let r = L.rewards a.0 a.1 a.2 a.3 in
    let s = L.rewards b.0 b.1 b.2 b.3 in
    let r0 = r.0 in
    let r1 = r.1 in
    let s0 = s.0 in
    let s1 = s.1 in
    let low = (scaled 1048576 (least_reward T) 1000000 (omega (arith, lin)) (omega (arith, lin))).0 in
    let high = (scaled 1048576 (largest_reward T) 1000000 (omega (arith, lin)) (omega (arith, lin))).1 in
    let u = w k h in
    let u0 = u.0 in
    let u1 = u.1 in
    (omega (arith, lin), omega (arith, lin))

pub refine_none : (M : Setting) (k width : ℕ) (B : Book) → refine M k 0 width B ≡ record { book = B; made = 0 }
unfolding refine
refine_none M k width B = refl

module _ (M : Setting) (k n width : ℕ) (B : Book) where
  abbrev stopped : Refined
  stopped = record { book = B; made = 0 }

  abbrev once : Refined
  once = record { book = step M k B; made = 1 }

  abbrev pub on : Refined
  on = let r = refine M k n width (step M k B) in record { book = r.book; made = suc r.made }

  abbrev by_held : Bool → Refined
  by_held h = elim h as (λ _. Refined) [ true ↦ once | false ↦ on ]

  abbrev by_narrow : Bool → Refined
  by_narrow a = elim a as (λ _. Refined) [ true ↦ stopped | false ↦ by_held (held M (at B.vector) k) ]

  pub refine_narrow : narrow width k B ≡ true → refine M k (suc n) width B ≡ record { book = B; made = 0 }
  unfolding refine
  refine_narrow e = ap by_narrow e

  pub refine_held : narrow width k B ≡ false → held M (at B.vector) k ≡ true → refine M k (suc n) width B ≡ record { book = step M k B; made = 1 }
  unfolding refine
  refine_held e h = ap by_narrow e ∙ ap by_held h

  pub refine_on : narrow width k B ≡ false → held M (at B.vector) k ≡ false → refine M k (suc n) width B ≡ on
  unfolding refine
  refine_on e h = ap by_narrow e ∙ ap by_held h
