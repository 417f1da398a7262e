-- How large the gains of a step can be, so that none overflows.
use Rattle.std.proofs.Common.{◌≡◌, ℕ, ◌^◌, ◌<◌, ◌≤◌, true, pos, neg_ℤ, ◌≤ℤ◌, Some, None, Option, arith}
use Rattle.table.specs.Table.{Table, successor}
use Rattle.table.specs.Limits.{Lawful}
use Rattle.horizon.specs.Means.{Rounding}
use Rattle.horizon.specs.Ring.{lin}
use Rattle.horizon.specs.MeansLemmas.{mean_from, mean_to}
use Rattle.components.specs.Nodes.{in_component}
use Rattle.rules.specs.Setting.{setting_of}
use Rattle.rules.specs.Refine.{worth, best}
use Rattle.rules.specs.declared.exit.Candidate.{Candidate}
use Rattle.rules.proofs.Sides.{Side}
use Rattle.rules.proofs.StepFacts.{best_reached}
use Rattle.book.specs.Inside.{over_inside}
use Rattle.book.proofs.RunSums.{scaled}
use Rattle.book.proofs.Insides.{by_choice, attaining, inside_best}

module _ (T : Table) (L : Lawful T) (rounds : Rounding) (side : Side rounds) (t : ℕ → ℕ) (capped : (s : ℕ) → s < T.states → t s ≤ 2 ^ 46) where
  -- F × reward is within 2^40 of 0, and a mean of the vector is between 0 and 2^46
  worth_within : (s c : ℕ) → s < T.states → c < T.choices s
      → (neg_ℤ (pos (2 ^ 40)) ≤ℤ worth (setting_of T) rounds t s c) × (worth (setting_of T) rounds t s c ≤ℤ pos (2 ^ 47))
  worth_within s c h k =
      let r = L.rewards s c h k in
      let w = scaled 1048576 (T.reward s c) 1000000 r.0 r.1 in
      let a = mean_from rounds side.equal side.larger T L s c h k (λ u. pos (t u)) (pos 0) (λ b l. omega (arith, lin)) in
      let b = mean_to rounds side.equal side.larger T L s c h k (λ u. pos (t u)) (pos (2 ^ 46))
      (λ b l. let u = capped (successor T s c b) (L.successors s c b h k l) in omega (arith, lin)) in
      (omega (arith, lin), omega (arith, lin))

  pub best_within : (s : ℕ) → s < T.states → in_component T s ≡ true
      → (neg_ℤ (pos (2 ^ 40)) ≤ℤ best (setting_of T) rounds t s) × (best (setting_of T) rounds t s ≤ℤ pos (2 ^ 47))
  best_within s h e =
      let x = best_reached (setting_of T) L rounds t s e in
      let w = worth_within s x.0 h x.1 in
      let q = x.3 in
      (omega (arith, lin), omega (arith, lin))

  -- the search for the best inside choice finds it, and the first that attains it
  pub sure : (s : ℕ) → in_component T s ≡ true
      → over_inside T (worth (setting_of T) rounds t s) s (T.choices s)
      ≡ Some (by_choice s (attaining T (worth (setting_of T) rounds t s) s (T.choices s)) (best (setting_of T) rounds t s))
  unfolding best
  sure s e =
      let x = best_reached (setting_of T) L rounds t s e in
      inside_best T (worth (setting_of T) rounds t s) s (T.choices s) x.0 x.1 x.2

  -- so what was found is that candidate, and something was found
  pub is_found : (s : ℕ) → in_component T s ≡ true → (o : Option Candidate) (a : Candidate)
      → o ≡ over_inside T (worth (setting_of T) rounds t s) s (T.choices s) → o ≡ Some a
      → a ≡ by_choice s (attaining T (worth (setting_of T) rounds t s) s (T.choices s)) (best (setting_of T) rounds t s)
  is_found s e o a p q = let w = sure s e in cc

  pub not_missing : (s : ℕ) → in_component T s ≡ true → (o : Option Candidate)
      → o ≡ over_inside T (worth (setting_of T) rounds t s) s (T.choices s) → o ≡ None → ⊥
  not_missing s e o p q = let w = sure s e in let z : ◌≡◌ {A = ℕ} 0 1 = cc in omega arith
