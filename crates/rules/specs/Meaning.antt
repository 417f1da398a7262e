-- What the definitions say in plain words. Where a law says all of what it is about, nothing else has it (`TheOnly`),
-- so that no other definition of a step, say, would keep the law of a step.
use Rattle.std.specs.Prelude.{◌≡◌, ℕ, zero, suc, ◌<◌, ◌≤◌, Bool, true, false, ◌⊎◌, List, ℤ, pos, ◌+ℤ◌, ◌-ℤ◌, ◌*ℤ◌, ◌≤ℤ◌, ◌<ℤ◌, Some, ◌≢◌}
use Rattle.table.specs.Table.{Table, successor}
use Rattle.table.specs.Limits.{Lawful}
use Rattle.horizon.specs.Means.{Rounding, round_down, round_up, mean}
use Rattle.horizon.specs.Potential.{RewardsBetween}
use Rattle.components.specs.Inside.{inside}
use Rattle.components.specs.Nodes.{nodes, node_of, components, in_component, states_of}
use Rattle.rules.specs.Choosing.{largest, smallest, at, at_z}
use Rattle.rules.specs.Setting.{Setting, least_reward, largest_reward}
use Rattle.rules.specs.Book.{Book, exit_at, start}
use Rattle.rules.specs.Refine.{gain, halfway, held, step, Refined, refine}
use Rattle.rules.specs.Sweep.{Candidate, best_of, update, sweep, Swept, sweeps}
use Rattle.rules.specs.Candidates.{CandidateOf, FirstBest}
use Rattle.rules.specs.Play.{distance, play}
use Rattle.rules.specs.Fit.{Lengths, PlanFits}
use Rattle.rules.specs.declared.exit.Exit.TheVariants.{Stay, Leave}

-- a has P, and nothing else has
pub record TheOnly {A : Type 0} (P : A → Type 0) (a : A) : Type 0 where
  pub has : P a
  pub only : (b : A) → P b → b ≡ a

-- i is the first number below n with P
pub record FirstWith (n : ℕ) (P : ℕ → Type 0) (i : ℕ) : Type 0 where
  pub below : i < n
  pub has : P i
  pub first : (j : ℕ) → j < i → P j → ⊥

-- m is the largest of f at the numbers below n that pass p
pub record Largest (n : ℕ) (p : ℕ → Bool) (f : ℕ → ℤ) (m : ℤ) : Type 0 where
  pub bounds : (i : ℕ) → i < n → p i ≡ true → f i ≤ℤ m
  pub attained : (i : ℕ) × (i < n) × (p i ≡ true) × (m ≡ f i)

-- and the least of them
pub record Smallest (n : ℕ) (p : ℕ → Bool) (f : ℕ → ℤ) (m : ℤ) : Type 0 where
  pub bounds : (i : ℕ) → i < n → p i ≡ true → m ≤ℤ f i
  pub attained : (i : ℕ) × (i < n) × (p i ≡ true) × (m ≡ f i)

-- where one number passes, `largest` and `smallest` are these
pub record Extremes : Type 0 where
  pub most : (n : ℕ) (p : ℕ → Bool) (f : ℕ → ℤ) (i : ℕ) → i < n → p i ≡ true → TheOnly (Largest n p f) (largest n p f)
  pub least : (n : ℕ) (p : ℕ → Bool) (f : ℕ → ℤ) (i : ℕ) → i < n → p i ≡ true → TheOnly (Smallest n p f) (smallest n p f)

-- z is the reward of a choice of the table
abbrev pub IsReward : Table → ℤ → Type 0
IsReward T z = (s : ℕ) × (c : ℕ) × (s < T.states) × (c < T.choices s) × (z ≡ T.reward s c)

-- rmin and rmax are rewards, and all rewards lie between them
pub record RewardLaw (T : Table) : Type 0 where
  pub between : RewardsBetween T (least_reward T) (largest_reward T)
  pub least : IsReward T (least_reward T)
  pub largest : IsReward T (largest_reward T)

-- A is the book at the start
pub record StartLaw (M : Setting) (A : Book) : Type 0 where
  pub lengths : Lengths M A
  pub vector : (s : ℕ) → s < M.table.states → at A.vector s ≡ 0
  -- a state of a component records its first inside choice, a lone state 0
  pub recorded : (s : ℕ) → s < M.table.states → in_component M.table s ≡ true
      → FirstWith (M.table.choices s) (λ c. inside M.table s c ≡ true) (at A.recorded s)
  pub unrecorded : (s : ℕ) → s < M.table.states → in_component M.table s ≡ false → at A.recorded s ≡ 0
  -- lower bounds are F × rmin, upper bounds F × rmax
  pub lo : (k : ℕ) → k < components M.table → at_z A.lo k ≡ pos M.scale *ℤ least_reward M.table
  pub hi : (k : ℕ) → k < components M.table → at_z A.hi k ≡ pos M.scale *ℤ largest_reward M.table
  pub x : (v : ℕ) → v < nodes M.table → at_z A.x v ≡ pos M.scale *ℤ largest_reward M.table
  pub y : (v : ℕ) → v < nodes M.table → at_z A.y v ≡ pos M.scale *ℤ least_reward M.table
  -- the plan of a component's node is to stay, that of a lone state's node is to leave by its choice 0
  pub stays : (s : ℕ) → s < M.table.states → in_component M.table s ≡ true → exit_at A.plan (node_of M.table s) ≡ Stay
  pub leaves : (s : ℕ) → s < M.table.states → in_component M.table s ≡ false → exit_at A.plan (node_of M.table s) ≡ Leave s 0

-- s is a state of component k
abbrev pub StateOf : Table → ℕ → ℕ → Type 0
StateOf T k s = (s < T.states) × (states_of T k s ≡ true)

-- F × reward + the rounded mean of t after the choice c of s, minus t(s)
abbrev pub choice_gain : Setting → Rounding → (ℕ → ℕ) → ℕ → ℕ → ℤ
choice_gain M rounds t s c = ((pos M.scale *ℤ M.table.reward s c) +ℤ mean rounds M.table s c (λ u. pos (t u))) -ℤ pos (t s)

-- up(s), down(s) and h(s) of a state, at the vector t
pub record GainLaw (M : Setting) (t : ℕ → ℕ) (s : ℕ) : Type 0 where
  -- up(s) is the largest gain of an inside choice by means rounded up, down(s) by means rounded down
  pub up : Largest (M.table.choices s) (inside M.table s) (choice_gain M round_up t s) (gain M round_up t s)
  pub down : Largest (M.table.choices s) (inside M.table s) (choice_gain M round_down t s) (gain M round_down t s)
  -- h(s) is t(s) + down(s) / 2, rounded down: 2 × (h(s) - t(s)) ≤ down(s) < 2 × (h(s) - t(s)) + 2
  pub half : (pos 2 *ℤ (halfway M t s -ℤ pos (t s))) ≤ℤ gain M round_down t s
  pub next : gain M round_down t s <ℤ ((pos 2 *ℤ (halfway M t s -ℤ pos (t s))) +ℤ pos 2)

-- hi becomes the lesser of itself and the largest up(s)
pub record HiLaw (M : Setting) (k : ℕ) (B A : Book) : Type 0 where
  pub most : ℤ
  pub is_largest : Largest M.table.states (states_of M.table k) (gain M round_up (at B.vector)) most
  pub falls : most <ℤ at_z B.hi k → at_z A.hi k ≡ most
  pub stays : at_z B.hi k ≤ℤ most → at_z A.hi k ≡ at_z B.hi k

-- if the least down(s) is above lo, it becomes lo, and each state of the component records the first of its inside choices
-- that attains down(s); else lo and these recorded choices stay
pub record LoLaw (M : Setting) (k : ℕ) (B A : Book) : Type 0 where
  pub least : ℤ
  pub is_least : Smallest M.table.states (states_of M.table k) (gain M round_down (at B.vector)) least
  pub rises : at_z B.lo k <ℤ least → at_z A.lo k ≡ least
  pub records : at_z B.lo k <ℤ least → (s : ℕ) → StateOf M.table k s
      → FirstWith (M.table.choices s)
      (λ c. (inside M.table s c ≡ true) × (choice_gain M round_down (at B.vector) s c ≡ gain M round_down (at B.vector) s))
      (at A.recorded s)
  pub stays : least ≤ℤ at_z B.lo k → at_z A.lo k ≡ at_z B.lo k
  pub keeps : least ≤ℤ at_z B.lo k → (s : ℕ) → StateOf M.table k s → at A.recorded s ≡ at B.recorded s

-- the next number of each state is h(s) minus the least h of the component, so never negative, if all of these are at most H;
-- if one is above H, the step is held, and the vector stays
pub record VectorLaw (M : Setting) (k : ℕ) (B A : Book) : Type 0 where
  pub least : ℤ
  pub is_least : Smallest M.table.states (states_of M.table k) (halfway M (at B.vector)) least
  pub moves : ((s : ℕ) → StateOf M.table k s → (halfway M (at B.vector) s -ℤ least) ≤ℤ pos M.cap)
      → (held M (at B.vector) k ≡ false)
      × ((s : ℕ) → StateOf M.table k s → pos (at A.vector s) ≡ halfway M (at B.vector) s -ℤ least)
  pub holds : (s : ℕ) → StateOf M.table k s → pos M.cap <ℤ (halfway M (at B.vector) s -ℤ least)
      → (held M (at B.vector) k ≡ true)
      × ((u : ℕ) → StateOf M.table k u → at A.vector u ≡ at B.vector u)

-- what is not of component k stays, and so do x, y and the plan
pub record OthersStay (M : Setting) (k : ℕ) (B A : Book) : Type 0 where
  pub lengths : Lengths M A
  pub hi : (i : ℕ) → i < components M.table → i ≢ k → at_z A.hi i ≡ at_z B.hi i
  pub lo : (i : ℕ) → i < components M.table → i ≢ k → at_z A.lo i ≡ at_z B.lo i
  pub vector : (s : ℕ) → s < M.table.states → states_of M.table k s ≡ false → at A.vector s ≡ at B.vector s
  pub recorded : (s : ℕ) → s < M.table.states → states_of M.table k s ≡ false → at A.recorded s ≡ at B.recorded s
  pub x : A.x ≡ B.x
  pub y : A.y ≡ B.y
  pub plan : A.plan ≡ B.plan

-- A is what one step at component k leaves of B; all of it looks at the vector before the step
pub record StepLaw (M : Setting) (k : ℕ) (B A : Book) : Type 0 where
  pub gains : (s : ℕ) → StateOf M.table k s → GainLaw M (at B.vector) s
  pub hi : HiLaw M k B A
  pub lo : LoLaw M k B A
  pub vector : VectorLaw M k B A
  pub others : OthersStay M k B A

-- the book after j steps at component k
unfoldable pub stepped : Setting → ℕ → ℕ → Book → Book
stepped M k zero B = B
stepped M k (suc j) B = stepped M k j (step M k B)

-- the step after j steps is held, and after j steps hi - lo is at most the width
abbrev pub HeldAfter : Setting → ℕ → ℕ → Book → Type 0
HeldAfter M k j B = held M (at (stepped M k j B).vector) k ≡ true

abbrev pub NarrowAfter : Setting → ℕ → ℕ → ℕ → Book → Type 0
NarrowAfter M width k j B = (at_z (stepped M k j B).hi k -ℤ at_z (stepped M k j B).lo k) ≤ℤ pos width

-- r is what a refine of at most n steps leaves: it makes no step from a narrow book and none after a held one,
-- and it ends early for one of these alone
pub record RefineLaw (M : Setting) (k n width : ℕ) (B : Book) (r : Refined) : Type 0 where
  pub book : r.book ≡ stepped M k r.made B
  pub most : r.made ≤ n
  pub wide : (j : ℕ) → j < r.made → NarrowAfter M width k j B → ⊥
  pub free : (j : ℕ) → suc j < r.made → HeldAfter M k j B → ⊥
  pub early : r.made < n → NarrowAfter M width k r.made B ⊎ ((j : ℕ) × (r.made ≡ suc j) × HeldAfter M k j B)

-- A is what the update of the node v leaves of B
pub record UpdateLaw (M : Setting) (v : ℕ) (B A : Book) : Type 0 where
  -- x becomes the largest of the upper candidates
  pub upper : Candidate
  pub is_upper : FirstBest (CandidateOf M round_up B.hi B.x v) upper
  pub x : at_z A.x v ≡ upper.value
  -- y becomes the largest of the lower candidates; if it rises, the plan becomes the first of these that attains it, else it stays
  pub lower : Candidate
  pub is_lower : FirstBest (CandidateOf M round_down B.lo B.y v) lower
  pub y : at_z A.y v ≡ lower.value
  pub rises : at_z B.y v <ℤ lower.value → exit_at A.plan v ≡ lower.exit
  pub stays : lower.value ≤ℤ at_z B.y v → exit_at A.plan v ≡ exit_at B.plan v
  -- the other nodes keep their numbers and plans, and all else stays
  pub others : (w : ℕ) → w < nodes M.table → w ≢ v
      → (at_z A.x w ≡ at_z B.x w) × (at_z A.y w ≡ at_z B.y w) × (exit_at A.plan w ≡ exit_at B.plan w)
  pub lengths : Lengths M A
  pub vector : A.vector ≡ B.vector
  pub recorded : A.recorded ≡ B.recorded
  pub lo : A.lo ≡ B.lo
  pub hi : A.hi ≡ B.hi

-- A is what a sweep leaves of B: all nodes are updated in order, each with what the one before left
pub record SweepLaw (M : Setting) (B A : Book) : Type 0 where
  pub books : ℕ → Book
  pub first : books 0 ≡ B
  pub updates : (v : ℕ) → v < nodes M.table → UpdateLaw M v (books v) (books (suc v))
  pub last : books (nodes M.table) ≡ A

-- the book after j sweeps
unfoldable pub swept_times : Setting → ℕ → Book → Book
swept_times M zero B = B
swept_times M (suc j) B = swept_times M j (sweep M B)

-- all x and y are the same
abbrev pub Unaltered : Setting → Book → Book → Type 0
Unaltered M A B = (v : ℕ) → v < nodes M.table → (at_z A.x v ≡ at_z B.x v) × (at_z A.y v ≡ at_z B.y v)

-- r is what at most n sweeps leave: only the last of them may alter nothing, and an early end is after such a one
pub record SweepsLaw (M : Setting) (n : ℕ) (B : Book) (r : Swept) : Type 0 where
  pub book : r.book ≡ swept_times M r.made B
  pub most : r.made ≤ n
  pub alters : (j : ℕ) → suc j < r.made → Unaltered M (swept_times M j B) (swept_times M (suc j) B) → ⊥
  pub early : r.made < n → (j : ℕ) × (r.made ≡ suc j) × Unaltered M (swept_times M j B) (swept_times M (suc j) B)

-- k branches of inside choices lead from s to t
pub data InsideWalk (T : Table) (t : ℕ) : ℕ → ℕ → Type 0 where
  arrived : InsideWalk T t 0 t
  onward : {k s : ℕ} (c b : ℕ) → inside T s c ≡ true → b < T.branches s c → InsideWalk T t k (successor T s c b) → InsideWalk T t (suc k) s

-- d is the distance from s to t: the least number of such branches
pub record DistanceLaw (T : Table) (t s d : ℕ) : Type 0 where
  pub walk : InsideWalk T t d s
  pub least : (k : ℕ) → InsideWalk T t k s → d ≤ k

-- c is an inside choice of s with a branch to a state that is one such branch nearer to t
abbrev pub LeadsNearer : Table → ℕ → ℕ → ℕ → Type 0
LeadsNearer T t s c =
    (inside T s c ≡ true) × ((b : ℕ) × (b < T.branches s c) × (suc (distance T t (successor T s c b)) ≡ distance T t s))

-- c is what the state s plays by the book B
pub record PlayLaw (T : Table) (B : Book) (s c : ℕ) : Type 0 where
  -- its recorded choice, where the plan stays in its node
  pub stays : exit_at B.plan (node_of T s) ≡ Stay → c ≡ at B.recorded s
  -- the choice d, where the plan leaves by the choice d of s itself
  pub leaves : (d : ℕ) → exit_at B.plan (node_of T s) ≡ Leave s d → c ≡ d
  -- its first inside choice that leads nearer to t, where the plan leaves by a choice of another state t
  pub nears : (t d : ℕ) → exit_at B.plan (node_of T s) ≡ Leave t d → s ≢ t → FirstWith (T.choices s) (LeadsNearer T t s) c

-- all of it, for every lawful table, scale and cap
pub record Meaning (M : Setting) : Type 0 where
  pub rewards : RewardLaw M.table
  pub starts : TheOnly (StartLaw M) (start M)
  pub steps : (k : ℕ) (B : Book) → k < components M.table → Lengths M B → TheOnly (StepLaw M k B) (step M k B)
  pub refining : (k n width : ℕ) (B : Book) → TheOnly (RefineLaw M k n width B) (refine M k n width B)
  -- each node has a best candidate, the first of the largest
  pub candidates : (rounds : Rounding) (bounds values : List ℤ) (v : ℕ) → v < nodes M.table
      → (b : Candidate) × (best_of M rounds bounds values v ≡ Some b) × TheOnly (FirstBest (CandidateOf M rounds bounds values v)) b
  pub updates : (v : ℕ) (B : Book) → v < nodes M.table → Lengths M B → TheOnly (UpdateLaw M v B) (update M v B)
  pub one_sweep : (B : Book) → Lengths M B → TheOnly (SweepLaw M B) (sweep M B)
  pub sweeping : (n : ℕ) (B : Book) → TheOnly (SweepsLaw M n B) (sweeps M n B)
  -- within a node
  pub distances : (t s : ℕ) → t < M.table.states → s < M.table.states → node_of M.table s ≡ node_of M.table t
      → TheOnly (DistanceLaw M.table t s) (distance M.table t s)
  -- where each exit of the plan is a choice of its node
  pub plays : (B : Book) (s : ℕ) → s < M.table.states → PlanFits M (exit_at B.plan)
      → TheOnly (PlayLaw M.table B s) (play M.table B s)

pub record EveryMeaning : Type 0 where
  pub extremes : Extremes
  pub rules : (M : Setting) → Lawful M.table → Meaning M
