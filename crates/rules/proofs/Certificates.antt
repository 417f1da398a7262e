-- A certificate of one component, put in place of what was there.
use Rattle.std.proofs.Common.{◌≡◌, ℕ, ◌<◌, ◌≤◌, true, false, cond, ℤ, pos, ◌+ℤ◌, ◌≤ℤ◌, ⊎_elim}
use Rattle.std.proofs.lemmas.Bool.{cases_Bool, both_ways, cond-true, cond-false, cond_both}
use Rattle.table.specs.Table.{successor, weight}
use Rattle.table.specs.Limits.{Lawful}
use Rattle.horizon.specs.Sums.{branch_sum_n}
use Rattle.horizon.specs.Means.{round_down, round_up}
use Rattle.horizon.specs.SumsLemmas.{weighted_n_cong}
use Rattle.horizon.specs.MeansLemmas.{bias_under, bias_over}
use Rattle.components.specs.Inside.{inside}
use Rattle.components.specs.Nodes.{in_component, component_of, states_of}
use Rattle.rules.specs.Setting.{Setting}
use Rattle.rules.specs.Refine.{worth}
use Rattle.rules.specs.Sound.{UpperCertified, LowerCertified}
use Rattle.rules.proofs.Nodes.{stays_in, stays_out}

-- t at the states of component k, u elsewhere
abbrev pub mix : Setting → ℕ → (ℕ → ℕ) → (ℕ → ℕ) → ℕ → ℕ
mix M k t u s = cond (states_of M.table k s) (t s) (u s)

module _ (M : Setting) (L : Lawful M.table) (k : ℕ) (t u : ℕ → ℕ) where
  mix_here : (s : ℕ) → states_of M.table k s ≡ true → mix M k t u s ≡ t s
  mix_here s m = cond-true (states_of M.table k s) (t s) (u s) m

  mix_other : (s : ℕ) → states_of M.table k s ≡ false → mix M k t u s ≡ u s
  mix_other s m = cond-false (states_of M.table k s) (t s) (u s) m

  mix_capped : (s : ℕ) → t s ≤ M.cap → u s ≤ M.cap → mix M k t u s ≤ M.cap
  mix_capped s a b = cond_both (states_of M.table k s) (t s) (u s) (λ x. x ≤ M.cap) (λ _. a) (λ _. b)

  module _ (s c : ℕ) (i : inside M.table s c ≡ true) where
    sum_here : states_of M.table k s ≡ true → branch_sum_n M.table s c (mix M k t u) ≡ branch_sum_n M.table s c t
    sum_here m =
        weighted_n_cong (M.table.branches s c) (weight M.table s c)
        (λ b. mix M k t u (successor M.table s c b)) (λ b. t (successor M.table s c b))
        (λ b j. mix_here (successor M.table s c b) (stays_in M.table L k s c b i j m))

    out_too : states_of M.table k s ≡ false → (b : ℕ) → b < M.table.branches s c → states_of M.table k (successor M.table s c b) ≡ false
    out_too m b j =
        ⊎_elim
        (λ (e : states_of M.table k (successor M.table s c b) ≡ true).
        absurd (both_ways (states_of M.table k s) m (stays_out M.table L k s c b i j e)))
        (λ (e : states_of M.table k (successor M.table s c b) ≡ false). e)
        (cases_Bool (states_of M.table k (successor M.table s c b)))

    sum_other : states_of M.table k s ≡ false → branch_sum_n M.table s c (mix M k t u) ≡ branch_sum_n M.table s c u
    sum_other m =
        weighted_n_cong (M.table.branches s c) (weight M.table s c)
        (λ b. mix M k t u (successor M.table s c b)) (λ b. u (successor M.table s c b))
        (λ b j. mix_other (successor M.table s c b) (out_too m b j))

  -- a new number hi of component k, which t certifies
  pub upper_new : (hi hi' : ℕ → ℤ) → UpperCertified M hi u
      → ((s : ℕ) → s < M.table.states → t s ≤ M.cap)
      → ((s : ℕ) → in_component M.table s ≡ true → states_of M.table k s ≡ false → hi' (component_of M.table s) ≡ hi (component_of M.table s))
      → ((s c : ℕ) → inside M.table s c ≡ true → states_of M.table k s ≡ true
      → worth M round_up t s c ≤ℤ (hi' (component_of M.table s) +ℤ pos (t s)))
      → ((s c : ℕ) → inside M.table s c ≡ true → in_component M.table s ≡ true)
      → UpperCertified M hi' (mix M k t u)
  upper_new hi hi' old capped other new within = record {
    capped = λ s h. mix_capped s (capped s h) (old.capped s h);
    bound = λ s c i.
        ⊎_elim
        (λ (m : states_of M.table k s ≡ true).
        rw (sum_here s c i m, mix_here s m)
        (bias_under M.table L.denominator.0 s c M.scale t (M.table.reward s c) (hi' (component_of M.table s) +ℤ pos (t s)) (new s c i m)))
        (λ (m : states_of M.table k s ≡ false). rw (sum_other s c i m, mix_other s m, other s (within s c i) m) (old.bound s c i))
        (cases_Bool (states_of M.table k s));
  }

  -- a new number lo of component k, which t certifies for new recorded choices
  pub lower_new : (lo lo' : ℕ → ℤ) (r r' : ℕ → ℕ) → LowerCertified M lo r u
      → ((s : ℕ) → s < M.table.states → t s ≤ M.cap)
      → ((s : ℕ) → in_component M.table s ≡ true → states_of M.table k s ≡ false → lo' (component_of M.table s) ≡ lo (component_of M.table s))
      → ((s : ℕ) → s < M.table.states → states_of M.table k s ≡ false → r' s ≡ r s)
      → ((s : ℕ) → s < M.table.states → states_of M.table k s ≡ true → inside M.table s (r' s) ≡ true)
      → ((s : ℕ) → s < M.table.states → states_of M.table k s ≡ true
      → (lo' (component_of M.table s) +ℤ pos (t s)) ≤ℤ worth M round_down t s (r' s))
      → LowerCertified M lo' r' (mix M k t u)
  lower_new lo lo' r r' old capped other same stays new = record {
    capped = λ s h. mix_capped s (capped s h) (old.capped s h);
    stays = stays';
    bound = λ s h e.
        ⊎_elim
        (λ (m : states_of M.table k s ≡ true).
        rw (sum_here s (r' s) (stays' s h e) m, mix_here s m)
        (bias_over M.table L.denominator.0 s (r' s) M.scale t (M.table.reward s (r' s)) (lo' (component_of M.table s) +ℤ pos (t s)) (new s h m)))
        (λ (m : states_of M.table k s ≡ false).
        rw (sum_other s (r' s) (stays' s h e) m, mix_other s m, other s e m, same s h m) (old.bound s h e))
        (cases_Bool (states_of M.table k s));
  }
    where
      stays' : (s : ℕ) → s < M.table.states → in_component M.table s ≡ true → inside M.table s (r' s) ≡ true
      stays' s h e =
          ⊎_elim (stays s h) (λ (m : states_of M.table k s ≡ false). rw (same s h m) (old.stays s h e)) (cases_Bool (states_of M.table k s))

-- the same numbers have the same certificates
pub upper_same : (M : Setting) (hi hi' : ℕ → ℤ) (u : ℕ → ℕ) → UpperCertified M hi u
    → ((s c : ℕ) → inside M.table s c ≡ true → hi' (component_of M.table s) ≡ hi (component_of M.table s)) → UpperCertified M hi' u
upper_same M hi hi' u old same = record { capped = old.capped; bound = λ s c i. rw (same s c i) (old.bound s c i) }

pub lower_same : (M : Setting) (lo lo' : ℕ → ℤ) (r r' v : ℕ → ℕ) → LowerCertified M lo r v
    → ((s : ℕ) → s < M.table.states → in_component M.table s ≡ true → lo' (component_of M.table s) ≡ lo (component_of M.table s))
    → ((s : ℕ) → s < M.table.states → r' s ≡ r s) → LowerCertified M lo' r' v
lower_same M lo lo' r r' v old same chosen = record {
  capped = old.capped;
  stays = λ s h e. rw (chosen s h) (old.stays s h e);
  bound = λ s h e. rw (same s h e, chosen s h) (old.bound s h e);
}
