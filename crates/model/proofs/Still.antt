-- The table of one state that stays is lawful, and its rewards are 0.
use Rattle.std.proofs.Common.{◌≡◌, ℕ, ◌<◌, pos, refl, subst, arith}
use Rattle.table.specs.Limits.{Lawful}
use Rattle.model.specs.Room.{still_table}
use Rattle.model.specs.Loads.{LeastReward, LargestReward}
use Rattle.model.proofs.Unbroken.{unbroken_lawful}

pub still_lawful : Lawful still_table
still_lawful = unbroken_lawful still_table refl

reward_is : (s c : ℕ) → s < still_table.states → c < still_table.choices s → still_table.reward s c ≡ pos 0
reward_is s c h k =
    let z : s ≡ 0 = omega arith in
    let l : c < still_table.choices 0 = subst (λ (t : ℕ). c < still_table.choices t) z k in
    let y : c ≡ 0 = omega arith in
    rw z (rw y refl)

pub still_least : LeastReward still_table (pos 0)
still_least = record { earned = (0, 0, omega arith, omega arith, refl); bound = λ s c h k. rw (reward_is s c h k) (omega arith) }

pub still_largest : LargestReward still_table (pos 0)
still_largest = record { earned = (0, 0, omega arith, omega arith, refl); bound = λ s c h k. rw (reward_is s c h k) (omega arith) }
