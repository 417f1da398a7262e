-- A numbered table at its places, and that it keeps all limits if each choice's branches do.
use Rattle.std.proofs.Common.{◌≡◌, ℕ, zero, suc, ◌+◌, ◌*◌, ◌%◌, ◌<◌, ◌≤◌, cond, ltb, ℤ, pos, neg_ℤ, ◌≤ℤ◌, ◌≢◌, sym, refl, ap, ap₂, ◌∙◌, subst, arith}
use Rattle.std.proofs.lemmas.Int.{ints}
use Rattle.std.proofs.lemmas.Bool.{cond-true, cond-false, lt-ltb, le-ltb}
use Rattle.table.specs.Sums.{sum_n}
use Rattle.table.specs.Table.{Table, ZeroOutside, weight}
use Rattle.table.specs.Limits.{Lawful}
use Rattle.samples.specs.Tables.{reward_at, numbered}

if_below : {X : Type 0} (m n : ℕ) (x y : X) → m < n → cond (ltb m n) x y ≡ x
if_below m n x y l = cond-true (ltb m n) x y (lt-ltb m n l)

if_above : {X : Type 0} (m n : ℕ) (x y : X) → n ≤ m → cond (ltb m n) x y ≡ y
if_above m n x y l = cond-false (ltb m n) x y (le-ltb m n l)

-- one to eight branches to different states, each of some weight, and of total weight 65,536
pub record Fair (k : ℕ) (f : ℕ → ℕ × ℕ) : Type 0 where
  pub few : (1 ≤ k) × (k ≤ 8)
  pub inside : (b : ℕ) → b < k → (f b).0 < 256
  pub weighty : (b : ℕ) → b < k → 1 ≤ (f b).1
  pub apart : (b : ℕ) → b < k → (a : ℕ) → a < b → (f a).0 ≢ (f b).0
  pub total : sum_n k (λ b. (f b).1) ≡ 65536

sum_same : (k : ℕ) (f g : ℕ → ℕ) → ((b : ℕ) → b < k → f b ≡ g b) → sum_n k f ≡ sum_n k g
sum_same zero f g e = refl
sum_same (suc k) f g e = ap₂ (λ x y. x + y) (sum_same k f g (λ b l. e b (omega arith))) (e k (omega arith))

fair_reward : (spread n : ℕ) → spread ≤ 65535 → (neg_ℤ (pos 1000000) ≤ℤ reward_at spread n) × (reward_at spread n ≤ℤ pos 1000000)
fair_reward spread n h =
    let m : ℕ = 7919 * n in
    let l : m % (2 * spread + 1) < 2 * spread + 1 = omega arith in
    (omega (arith, ints), omega (arith, ints))

module _ (spread : ℕ) (count : ℕ → ℕ) (branch : ℕ → ℕ → ℕ × ℕ) where
  abbrev T : Table
  T = numbered spread count branch

  pub choices_in : (s : ℕ) → s < 256 → T.choices s ≡ 16
  choices_in s l = if_below s 256 16 0 l

  has : (s c : ℕ) → s < 256 → c < 16 → c < T.choices s
  has s c l m = subst (λ (j : ℕ). c < j) (sym (choices_in s l)) m

  pub reward_in : (s c : ℕ) → s < 256 → c < 16 → T.reward s c ≡ reward_at spread (16 * s + c)
  reward_in s c l m = if_below c (T.choices s) (reward_at spread (16 * s + c)) (pos 0) (has s c l m)

  pub branches_in : (s c : ℕ) → s < 256 → c < 16 → T.branches s c ≡ count s
  branches_in s c l m = if_below c (T.choices s) (count s) 0 (has s c l m)

  pub branch_in : (s c b : ℕ) → b < T.branches s c → T.branch s c b ≡ branch (16 * s + c) b
  branch_in s c b l = if_below b (T.branches s c) (branch (16 * s + c) b) (0, 0) l

  pub zero_outside : ZeroOutside T
  zero_outside = record {
    choices = λ s l. if_above s 256 16 0 l;
    reward = λ s c l. if_above c (T.choices s) (reward_at spread (16 * s + c)) (pos 0) l;
    branches = λ s c l. if_above c (T.choices s) (count s) 0 l;
    branch = λ s c b l. if_above b (T.branches s c) (branch (16 * s + c) b) (0, 0) l;
  }

  module _ (small : spread ≤ 65535) (fair : (s c : ℕ) → s < 256 → c < 16 → Fair (count s) (branch (16 * s + c))) where
    below : (s c : ℕ) → s < 256 → c < T.choices s → c < 16
    below s c l m = subst (λ (j : ℕ). c < j) (choices_in s l) m

    at : (s c : ℕ) → s < 256 → c < T.choices s → Fair (count s) (branch (16 * s + c))
    at s c l m = fair s c l (below s c l m)

    size : (s c : ℕ) → s < 256 → c < T.choices s → T.branches s c ≡ count s
    size s c l m = branches_in s c l (below s c l m)

    less : (s c b : ℕ) → s < 256 → c < T.choices s → b < T.branches s c → b < count s
    less s c b l m o = subst (λ (j : ℕ). b < j) (size s c l m) o

    pub numbered_lawful : Lawful T
    numbered_lawful = record {
      states = (omega arith, omega arith);
      denominator = (omega arith, omega arith);
      choices = λ s l. subst (λ (j : ℕ). (1 ≤ j) × (j ≤ 16)) (sym (choices_in s l)) (omega arith, omega arith);
      rewards = λ s c l m. subst (λ (z : ℤ). (neg_ℤ (pos 1000000) ≤ℤ z) × (z ≤ℤ pos 1000000))
          (sym (reward_in s c l (below s c l m))) (fair_reward spread (16 * s + c) small);
      branches = λ s c l m. subst (λ (j : ℕ). (1 ≤ j) × (j ≤ 8)) (sym (size s c l m)) (at s c l m).few;
      successors = λ s c b l m o. subst (λ (x : ℕ × ℕ). x.0 < 256) (sym (branch_in s c b o)) ((at s c l m).inside b (less s c b l m o));
      weights = λ s c b l m o. subst (λ (x : ℕ × ℕ). 1 ≤ x.1) (sym (branch_in s c b o)) ((at s c l m).weighty b (less s c b l m o));
      distinct = λ s c b l m o a p e.
          let q : a < T.branches s c = omega arith in
          (at s c l m).apart b (less s c b l m o) a p
          (ap (λ (x : ℕ × ℕ). x.0) (sym (branch_in s c a q)) ∙ e ∙ ap (λ (x : ℕ × ℕ). x.0) (branch_in s c b o));
      complete = λ s c l m.
          sum_same (T.branches s c) (weight T s c) (λ b. (branch (16 * s + c) b).1) (λ b o. ap (λ (x : ℕ × ℕ). x.1) (branch_in s c b o))
          ∙ ap (λ (k : ℕ). sum_n k (λ b. (branch (16 * s + c) b).1)) (size s c l m)
          ∙ (at s c l m).total;
    }
