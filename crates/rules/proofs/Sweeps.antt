-- Sweeps keep a book sound, and its bounds only tighten.
use Rattle.std.proofs.Common.{ℕ}
use Rattle.table.specs.Limits.{Lawful}
use Rattle.components.specs.Nodes.{node_of}
use Rattle.rules.specs.Setting.{Setting}
use Rattle.rules.specs.Choosing.{at_z}
use Rattle.rules.specs.Book.{Book}
use Rattle.rules.specs.Sweep.{update, sweeps}
use Rattle.rules.specs.Sound.{Sound}
use Rattle.rules.proofs.Order.{le_self}
use Rattle.rules.proofs.Nodes.{node_number}
use Rattle.rules.proofs.Updates.{update_fit}
use Rattle.rules.proofs.Calls.{sweeps_every}
use Rattle.rules.proofs.UpdateX.{x_falls, x_over}
use Rattle.rules.proofs.UpdateY.{y_rises, y_under, y_progress}
use Rattle.rules.proofs.Refines.{Keeps, keeps_self, keeps_on}

module _ (M : Setting) (L : Lawful M.table) where
  update_keeps : (v : ℕ) (B : Book) → Sound M B → Keeps M B (update M v B)
  unfolding update
  update_keeps v B S = record {
    sound = record {
      fit = update_fit M L v B S.fit;
      upper = S.upper;
      lower = S.lower;
      over = x_over M L v B S.fit S.over;
      under = y_under M L v B S.fit S.under;
      progress = y_progress M L v B S.fit S.under S.progress.0 S.progress.1 S.progress.2;
    };
    tighter = record {
      upper = λ s h. x_falls M L v B S.fit S.over (node_of M.table s) (node_number M.table L s h);
      lower = λ s h. y_rises M L v B S.fit S.under (node_of M.table s) (node_number M.table L s h);
      hi = λ k l. le_self (at_z B.hi k);
      lo = λ k l. le_self (at_z B.lo k);
    };
  }

  pub sweeps_keep : (n : ℕ) (B : Book) → Sound M B → Keeps M B (sweeps M n B).book
  sweeps_keep n B S =
      sweeps_every M (Keeps M B) (λ v A w. keeps_on M B A (update M v A) w (update_keeps v A w.sound)) n B (keeps_self M B S)
