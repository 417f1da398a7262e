-- The run of a choice's branches, each with a place of its successor.
use Rattle.std.proofs.Common.{◌≡◌, ℕ, ◌^◌, ◌<◌, ◌≤◌, Bool, List, length, get_or, ℤ, pos, ap, ◌∙◌, arith}
use Rattle.table.specs.Sums.{sum_n}
use Rattle.table.specs.Table.{Table, successor, weight}
use Rattle.table.specs.Limits.{Lawful}
use Rattle.horizon.specs.Sums.{branch_sum_z, weighted_z}
use Rattle.components.specs.Below.{any}
use Rattle.rules.specs.Play.{enters}
use Rattle.book.specs.Listed.{link_of}
use Rattle.book.specs.RunSums.{place_at, weight_at, run_sum}
use Rattle.book.proofs.Searches.{any_ext}
use Rattle.book.proofs.RunSums.{sum_n_cong, weighted_z_same}

module _ (T : Table) (L : Lawful T) (s c : ℕ) (h : s < T.states) (k : c < T.choices s) (place : ℕ → ℕ) (run : List (ℕ × ℕ))
    (size : length run ≡ T.branches s c)
    (held : (b : ℕ) → b < T.branches s c → get_or {A = ℕ × ℕ} run b (0, 0) ≡ link_of place (T.branch s c b)) where
  run_place : (b : ℕ) → b < T.branches s c → place_at run b ≡ place (successor T s c b)
  run_place b m = ap (λ (p : ℕ × ℕ). p.0) (held b m)

  run_weight : (b : ℕ) → b < T.branches s c → weight_at run b ≡ weight T s c b
  run_weight b m = ap (λ (p : ℕ × ℕ). p.1) (held b m)

  -- each place is below what all places of states are below
  pub run_within : (n : ℕ) → ((u : ℕ) → u < T.states → place u < n) → (b : ℕ) → b < length run → place_at run b < n
  run_within n below b m =
      let l : b < T.branches s c = omega arith in
      let p = run_place b l in
      let q = below (successor T s c b) (L.successors s c b h k l) in
      omega arith

  -- the weights are not more than the sum can take
  pub run_light : sum_n (length run) (weight_at run) ≤ 2 ^ 16
  run_light =
      let e = sum_n_cong (T.branches s c) (weight_at run) (weight T s c) run_weight in
      let g : sum_n (length run) (weight_at run) ≡ sum_n (T.branches s c) (weight_at run) = ap (λ (i : ℕ). sum_n i (weight_at run)) size in
      let w = L.complete s c h k in
      let d = L.denominator.1 in
      omega arith

  -- the sum over the run is that of the choice over the values at the places
  pub run_total : (values : List ℤ) → run_sum run values ≡ branch_sum_z T s c (λ u. get_or values (place u) (pos 0))
  run_total values =
      ap (λ (i : ℕ). weighted_z i (weight_at run) (λ b. get_or values (place_at run b) (pos 0))) size
      ∙ weighted_z_same (T.branches s c) (weight_at run) (weight T s c)
      (λ b. get_or values (place_at run b) (pos 0)) (λ b. get_or values (place (successor T s c b)) (pos 0))
      run_weight (λ b m. ap (λ (u : ℕ). get_or values u (pos 0)) (run_place b m))

  -- the run enters what the choice enters
  pub run_enters : (p : ℕ → Bool) → any (length run) (λ b. p (place_at run b)) ≡ enters T (λ u. p (place u)) s c
  run_enters p =
      ap (λ (n : ℕ). any n (λ b. p (place_at run b))) size
      ∙ any_ext (T.branches s c) (λ b. p (place_at run b)) (λ b. p (place (successor T s c b))) (λ b m. ap p (run_place b m))
