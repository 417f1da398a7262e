-- What the calls of a desk answer.
use Rattle.std.proofs.Common.{◌≡◌, ℕ, ◌<◌, ◌≤◌, ltb, leb, List, ◌++◌, length, take, drop, ℤ, pos, sym, ap, ◌∙◌}
use Rattle.std.proofs.lemmas.List.{take-append-drop, length-take-le, get_or-take}
use Rattle.std.proofs.lemmas.List.FromFn.{fill_by_all}
use Rattle.std.proofs.lemmas.Bool.{cond-true, cond-false, lt-ltb, le-ltb, le-leb, lt-leb}
use Rattle.table.specs.Table.{Table}
use Rattle.components.specs.Nodes.{components}
use Rattle.rules.specs.Choosing.{at, tabulate}
use Rattle.rules.specs.Setting.{setting_of}
use Rattle.rules.specs.Book as rules
use Rattle.rules.specs.Refine.{refine}
use Rattle.rules.specs.Sweep.{sweeps}
use Rattle.rules.specs.Runs.{changed, refines, sweeping, closing}
use Rattle.rules.specs.Play.{play}
use Rattle.rules.specs.Promises.{upper_at, lower_at}
use Rattle.book.specs.Desks.{steps_made, bounds_at, plan_in}

-- Where there is no such component, no such state, or no room

pub no_steps : (T : Table) (B : rules.Book) (k n width : ℕ) → components T ≤ k → 0 ≡ steps_made T B k n width
unfolding steps_made
no_steps T B k n width h = sym (cond-false (ltb k (components T)) (refine (setting_of T) k n width B).made 0 (le-ltb k (components T) h))

pub no_change : (T : Table) (B : rules.Book) (k n width : ℕ) → components T ≤ k → B ≡ changed (setting_of T) (refines k n width) B
unfolding changed
no_change T B k n width h = sym (cond-false (ltb k (components T)) (refine (setting_of T) k n width B).book B (le-ltb k (components T) h))

pub no_bounds : (T : Table) (B : rules.Book) (s : ℕ) → T.states ≤ s → (pos 0, pos 0) ≡ bounds_at T B s
unfolding bounds_at
no_bounds T B s h = sym (cond-false (ltb s T.states) (lower_at (setting_of T) B s, upper_at (setting_of T) B s) (pos 0, pos 0) (le-ltb s T.states h))

pub no_plan : (T : Table) (B : rules.Book) (list : List ℕ) → length list < T.states → list ≡ plan_in T B list
unfolding plan_in
no_plan T B list h =
    sym (cond-false (leb T.states (length list)) (tabulate T.states (play T B) ++ drop T.states list) list (lt-leb T.states (length list) h))

-- Where there is

module _ (T : Table) (B : rules.Book) where
  pub some_steps : (k n width r : ℕ) → k < components T → r ≡ (refine (setting_of T) k n width B).made → r ≡ steps_made T B k n width
  unfolding steps_made
  some_steps k n width r h e = e ∙ sym (cond-true (ltb k (components T)) (refine (setting_of T) k n width B).made 0 (lt-ltb k (components T) h))

  pub some_change : (A : rules.Book) (k n width : ℕ) → k < components T → A ≡ (refine (setting_of T) k n width B).book
      → A ≡ changed (setting_of T) (refines k n width) B
  unfolding changed
  some_change A k n width h e = e ∙ sym (cond-true (ltb k (components T)) (refine (setting_of T) k n width B).book B (lt-ltb k (components T) h))

  pub swept : (A : rules.Book) (n : ℕ) → A ≡ (sweeps (setting_of T) n B).book → A ≡ changed (setting_of T) (sweeping n) B
  unfolding changed
  swept A n e = e

  pub closed : (A : rules.Book) → A ≡ rules.start (setting_of T) → A ≡ changed (setting_of T) closing B
  unfolding changed
  closed A e = e

  pub some_bounds : (s : ℕ) (p : ℤ × ℤ) → s < T.states → p.0 ≡ lower_at (setting_of T) B s → p.1 ≡ upper_at (setting_of T) B s → p ≡ bounds_at T B s
  unfolding bounds_at
  some_bounds s p h e g =
      let q : p ≡ (lower_at (setting_of T) B s, upper_at (setting_of T) B s) = λ i. (e i, g i) in
      q ∙ sym (cond-true (ltb s T.states) (lower_at (setting_of T) B s, upper_at (setting_of T) B s) (pos 0, pos 0) (lt-ltb s T.states h))

  pub some_plan : (list written : List ℕ) → T.states ≤ length list → written ≡ tabulate T.states (play T B) ++ drop T.states list → written ≡ plan_in T B list
  unfolding plan_in
  some_plan list written h e =
      e ∙ sym (cond-true (leb T.states (length list)) (tabulate T.states (play T B) ++ drop T.states list) list (le-leb T.states (length list) h))

-- a list that holds f at its first n places, and the rest of another
pub filled : (n : ℕ) (f : ℕ → ℕ) (xs ys : List ℕ) → n ≤ length xs → ((i : ℕ) → i < n → at xs i ≡ f i) → drop n xs ≡ drop n ys
    → xs ≡ tabulate n f ++ drop n ys
filled n f xs ys h p e =
    let a : take n xs ≡ tabulate n f = fill_by_all f (take n xs) n 0 (length-take-le n xs h) (λ k l. get_or-take n xs k 0 l ∙ p k l) in
    sym (take-append-drop n xs) ∙ ap (λ (zs : List ℕ). zs ++ drop n xs) a ∙ ap (λ (zs : List ℕ). tabulate n f ++ zs) e
