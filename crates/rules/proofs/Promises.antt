-- Every book that changes lead to from the start is sound, so its bounds hold; and no change but closing widens one.
use Rattle.std.proofs.Common.{ℕ, ltb, List, [], ◌∷◌}
use Rattle.std.proofs.lemmas.Bool.{cond_both, ltb-true}
use Rattle.table.specs.Limits.{Lawful}
use Rattle.components.specs.Nodes.{components}
use Rattle.rules.specs.Setting.{Setting}
use Rattle.rules.specs.Book.{Book, start}
use Rattle.rules.specs.Refine.{refine}
use Rattle.rules.specs.Runs.{Change, refines, sweeping, closing, changed, after}
use Rattle.rules.specs.Fit.{EveryFit}
use Rattle.rules.specs.Sound.{Sound}
use Rattle.rules.specs.Promises.{EveryBook, EverySound}
use Rattle.rules.proofs.Start.{start_fit, start_sound}
use Rattle.rules.proofs.Steps.{step_fit}
use Rattle.rules.proofs.Updates.{update_fit}
use Rattle.rules.proofs.Calls.{refine_fit, sweep_fit, sweeps_fit}
use Rattle.rules.proofs.Refines.{Keeps, keeps_self, refine_keeps}
use Rattle.rules.proofs.Sweeps.{sweeps_keep}
use Rattle.rules.proofs.Upper.{sound_upper}
use Rattle.rules.proofs.Lower.{sound_lower}

module _ (M : Setting) (L : Lawful M.table) where
  refined_keeps : (k n width : ℕ) (B : Book) → Sound M B → Keeps M B (changed M (refines k n width) B)
  unfolding changed
  refined_keeps k n width B S =
      cond_both (ltb k (components M.table)) (refine M k n width B).book B (Keeps M B)
      (λ e. refine_keeps M L k (ltb-true k (components M.table) e) n width B S) (λ e. keeps_self M B S)

  swept_keeps : (n : ℕ) (B : Book) → Sound M B → Keeps M B (changed M (sweeping n) B)
  unfolding changed
  swept_keeps n B S = sweeps_keep M L n B S

  closed_sound : (B : Book) → Sound M (changed M closing B)
  unfolding changed
  closed_sound B = start_sound M L

  changed_sound : (c : Change) (B : Book) → Sound M B → Sound M (changed M c B)
  changed_sound (refines k n width) B S = (refined_keeps k n width B S).sound
  changed_sound (sweeping n) B S = (swept_keeps n B S).sound
  changed_sound closing B S = closed_sound B

  after_sound : (changes : List Change) (B : Book) → Sound M B → Sound M (after M B changes)
  unfolding after
  after_sound [] B S = S
  after_sound (c ∷ cs) B S = after_sound cs (changed M c B) (changed_sound c B S)

  reached : (changes : List Change) → Sound M (after M (start M) changes)
  reached changes = after_sound changes (start M) (start_sound M L)

pub every_book : EveryBook
every_book M L = record {
  upper = λ cs. sound_upper M L (after M (start M) cs) (reached M L cs);
  lower = λ cs. sound_lower M L (after M (start M) cs) (reached M L cs);
  refining = λ cs k n width. (refined_keeps M L k n width (after M (start M) cs) (reached M L cs)).tighter;
  sweeps = λ cs n. (swept_keeps M L n (after M (start M) cs) (reached M L cs)).tighter;
}

pub every_sound : EverySound
every_sound M L = record {
  starts = start_sound M L;
  refined = λ k n width known B S. (refine_keeps M L k known n width B S).sound;
  swept = λ n B S. (sweeps_keep M L n B S).sound;
  changes = changed_sound M L;
  upper = sound_upper M L;
  lower = sound_lower M L;
  refining = λ k n width known B S. (refine_keeps M L k known n width B S).tighter;
  sweeping = λ n B S. (sweeps_keep M L n B S).tighter;
}

pub every_fit : EveryFit
every_fit M L = record {
  starts = start_fit M L;
  steps = λ k known B S. step_fit M L k known B S;
  updates = λ v B S. update_fit M L v B S;
  refines = λ k n width known B S. refine_fit M L k known n width B S;
  sweep = sweep_fit M L;
  sweeps = sweeps_fit M L;
}
