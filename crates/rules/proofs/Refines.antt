-- A refine keeps a book sound, and its bounds only tighten.
use Rattle.std.proofs.Common.{ℕ, ◌<◌}
use Rattle.table.specs.Limits.{Lawful}
use Rattle.horizon.specs.Ring.{le_trans}
use Rattle.components.specs.Nodes.{components}
use Rattle.rules.specs.Setting.{Setting}
use Rattle.rules.specs.Choosing.{at_z}
use Rattle.rules.specs.Book.{Book}
use Rattle.rules.specs.Refine.{step, refine}
use Rattle.rules.specs.Sound.{Sound}
use Rattle.rules.specs.Promises.{upper_at, lower_at, Tighter}
use Rattle.rules.proofs.Order.{le_self}
use Rattle.rules.proofs.Calls.{refine_every}
use Rattle.rules.proofs.SoundSteps.{step_sound, step_tighter}

-- sound, and no bound wider than in A
pub record Keeps (M : Setting) (A B : Book) : Type 0 where
  pub sound : Sound M B
  pub tighter : Tighter M A B

pub tighter_self : (M : Setting) (A : Book) → Tighter M A A
tighter_self M A = record {
  upper = λ s h. le_self (upper_at M A s);
  lower = λ s h. le_self (lower_at M A s);
  hi = λ k l. le_self (at_z A.hi k);
  lo = λ k l. le_self (at_z A.lo k);
}

pub tighter_on : (M : Setting) (A B C : Book) → Tighter M A B → Tighter M B C → Tighter M A C
tighter_on M A B C p q = record {
  upper = λ s h. le_trans (upper_at M C s) (upper_at M B s) (upper_at M A s) (q.upper s h) (p.upper s h);
  lower = λ s h. le_trans (lower_at M A s) (lower_at M B s) (lower_at M C s) (p.lower s h) (q.lower s h);
  hi = λ k l. le_trans (at_z C.hi k) (at_z B.hi k) (at_z A.hi k) (q.hi k l) (p.hi k l);
  lo = λ k l. le_trans (at_z A.lo k) (at_z B.lo k) (at_z C.lo k) (p.lo k l) (q.lo k l);
}

pub keeps_self : (M : Setting) (A : Book) → Sound M A → Keeps M A A
keeps_self M A S = record { sound = S; tighter = tighter_self M A }

pub keeps_on : (M : Setting) (A B C : Book) → Keeps M A B → Keeps M B C → Keeps M A C
keeps_on M A B C p q = record { sound = q.sound; tighter = tighter_on M A B C p.tighter q.tighter }

module _ (M : Setting) (L : Lawful M.table) (k : ℕ) (known : k < components M.table) where
  step_keeps : (B : Book) → Sound M B → Keeps M B (step M k B)
  step_keeps B S = record { sound = step_sound M L k known B S; tighter = step_tighter M L k known B S }

  pub refine_keeps : (n width : ℕ) (B : Book) → Sound M B → Keeps M B (refine M k n width B).book
  refine_keeps n width B S =
      refine_every M k (Keeps M B) (λ A w. keeps_on M B A (step M k A) w (step_keeps A w.sound)) n width B (keeps_self M B S)
