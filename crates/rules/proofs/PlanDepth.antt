-- Under the plan each state is at most as many steps as there are states from a node that stays.
use Rattle.std.proofs.Common.{◌≡◌, ℕ, zero, suc, ◌+◌, ◌*◌, ◌<◌, ◌≤◌, Bool, true, false, ltb, ◌⊎◌, ℤ, ◌-ℤ◌, nat_abs, ap, inl, inr, mul-le-mul_right, suc-mul, arith}
use borrow.Author.Differences.{abs_is}
use Rattle.std.proofs.lemmas.Bool.{ltb-true}
use Rattle.table.specs.Table.{successor}
use Rattle.table.specs.Limits.{Lawful}
use Rattle.horizon.specs.Ring.{lin}
use Rattle.components.specs.Nodes.{node_of}
use Rattle.components.proofs.Below.{any_some, any_from}
use Rattle.rules.specs.Setting.{Setting, top}
use Rattle.rules.specs.Choosing.{at_z}
use Rattle.rules.specs.Book.{Book, exit_at}
use Rattle.rules.specs.Layers.{layer, level}
use Rattle.rules.specs.Play.{enters, distance, play}
use Rattle.rules.specs.Sound.{Ahead, Sound}
use Rattle.rules.specs.declared.exit.Exit.{Exit}
use Rattle.rules.specs.declared.exit.Exit.TheVariants.{Stay, Leave}
use Rattle.rules.proofs.Nodes.{stays_node, node_number}
use Rattle.rules.proofs.Layers as layers
use Rattle.rules.proofs.Distances.{enters_mono, distance_most}
use Rattle.rules.proofs.Plays.{exit, staying, leaving, nearing, way, plays}

-- a smaller first part, or the same and a smaller second
lex : (R a r b q : ℕ) → a < b → r < R → a * R + r < b * R + q
lex R a r b q h l = let m = mul-le-mul_right {m = suc a} {n = b} R h in let e = suc-mul a R in omega arith

pub is_stay : Exit → Bool
is_stay Stay = true
is_stay (Leave t c) = false

-- the state that an exit leaves from
from_of : Exit → ℕ
from_of Stay = 0
from_of (Leave t c) = t

pub stay_is : (e : Exit) → e ≡ Stay → is_stay e ≡ true
unfolding is_stay
stay_is e q = ap is_stay q

pub leave_is : (e : Exit) (t c : ℕ) → e ≡ Leave t c → is_stay e ≡ false
unfolding is_stay
leave_is e t c q = ap is_stay q

from_is : (e : Exit) (t c : ℕ) → e ≡ Leave t c → from_of e ≡ t
unfolding from_of
from_is e t c q = ap from_of q

module _ (M : Setting) (L : Lawful M.table) (B : Book) (S : Sound M B) where
  abbrev node : ℕ → ℕ
  node s = node_of M.table s

  -- the nodes that stay, and the step of the plan
  abbrev goal : ℕ → Bool
  goal s = is_stay (exit M L B S s)

  abbrev back : (ℕ → Bool) → ℕ → Bool
  back P s = enters M.table P s (play M.table B s)

  back_mono : (P Q : ℕ → Bool) → ((u : ℕ) → u < M.table.states → P u ≡ true → Q u ≡ true)
      → (s : ℕ) → s < M.table.states → back P s ≡ true → back Q s ≡ true
  back_mono P Q k s h e = enters_mono M.table L P Q k s (play M.table B s) h (plays M L B S s h) e

  -- what falls at each step: what y lacks, then the stamp, then the distance to the exit
  lacks : ℕ → ℕ
  lacks v = nat_abs (top M -ℤ at_z B.y v)

  rank : ℕ → ℕ
  rank v = lacks v * S.progress.1 + S.progress.0 v

  measure : ℕ → ℕ
  measure s = rank (node s) * suc (suc M.table.states) + distance M.table (from_of (exit M L B S s)) s

  rank_falls : (u s : ℕ) → u < M.table.states → s < M.table.states → Ahead (at_z B.y) S.progress.0 (node u) (node s)
      → rank (node u) < rank (node s)
  unfolding rank lacks
  rank_falls u s hu hs b =
      let a = (S.fit.y (node u) (node_number M.table L u hu)).1 in
      let c = (S.fit.y (node s) (node_number M.table L s hs)).1 in
      let r = S.progress.2.older (node u) (node_number M.table L u hu) in
      elim b [
        | inl l ↦ lex S.progress.1 (lacks (node u)) (S.progress.0 (node u)) (lacks (node s)) (S.progress.0 (node s))
            (omega (arith, lin, abs_is)) r
        | inr k ↦
            (let e = k.0 in
            let l = k.1 in
            let q : lacks (node u) * S.progress.1 ≡ lacks (node s) * S.progress.1 = ap (λ (z : ℤ). nat_abs (top M -ℤ z) * S.progress.1) e in
            omega arith)
      ]

  measure_rank : (u s : ℕ) → rank (node u) < rank (node s) → measure u < measure s
  unfolding measure
  measure_rank u s l =
      lex (suc (suc M.table.states)) (rank (node u)) (distance M.table (from_of (exit M L B S u)) u)
      (rank (node s)) (distance M.table (from_of (exit M L B S s)) s) l
      (let d = distance_most M.table L (from_of (exit M L B S u)) u in omega arith)

  measure_near : (u s : ℕ) → node u ≡ node s
      → distance M.table (from_of (exit M L B S s)) u < distance M.table (from_of (exit M L B S s)) s → measure u < measure s
  unfolding measure
  measure_near u s e l =
      let a : rank (node u) * suc (suc M.table.states) ≡ rank (node s) * suc (suc M.table.states) =
      ap (λ (v : ℕ). rank v * suc (suc M.table.states)) e in
      let d : distance M.table (from_of (exit M L B S u)) u ≡ distance M.table (from_of (exit M L B S s)) u =
      ap (λ (v : ℕ). distance M.table (from_of (exit_at B.plan v)) u) e in
      omega arith

  -- a step of the plan that lowers the measure
  descends : (s : ℕ) → s < M.table.states
      → (goal s ≡ true)
      ⊎ ((b : ℕ) × (b < M.table.branches s (play M.table B s)) × (measure (successor M.table s (play M.table B s) b) < measure s))
  descends s h =
      let T = M.table in
      let c = play T B s in
      let l = plays M L B S s h in
      elim (way M L B S s h) [
        | staying e q i ↦ inl (stay_is (exit M L B S s) e)
        | leaving t d e x ↦
            (let b = x.ahead.0 in
            let k = x.ahead.1 in
            let u = successor T s c b in
            inr (b, k, measure_rank u s (rank_falls u s (L.successors s c b h l k) h x.ahead.2)))
        | nearing t d e n ↦
            (let b = n.branch.0 in
            let k = n.branch.1 in
            let u = successor T s c b in
            let q = n.branch.2 in
            let g : distance T t u < distance T t s = omega arith in
            inr (b, k, measure_near u s (stays_node T L s c b n.inside_choice k) (rw (from_is (exit M L B S s) t d e) g)))
      ]

  -- each state is in some layer
  within : (m s : ℕ) → s < M.table.states → measure s < m → (k : ℕ) × (layer goal back k s ≡ true)
  unfolding layer
  within zero s h l = absurd (let z : measure s < 0 = l in omega arith)
  within (suc m) s h l =
      elim (descends s h) [
        | inl e ↦ (0, e)
        | inr x ↦
            (let c = play M.table B s in
            let u = successor M.table s c x.0 in
            let d = x.2 in
            let y = within m u (L.successors s c x.0 h (plays M L B S s h) x.1) (omega arith) in (
              suc y.0,
              layers.steps M.table.states goal back back_mono y.0 s
                  (any_from (M.table.branches s c) (λ b. layer goal back y.0 (successor M.table s c b)) x.0 x.1 y.1),
            ))
      ]

  some : (s : ℕ) → s < M.table.states → (k : ℕ) × (layer goal back k s ≡ true)
  some s h = within (suc (measure s)) s h (omega arith)

  -- the depth under the plan
  pub plan_depth : ℕ → ℕ
  plan_depth s = level M.table.states goal back s

  pub plan_shallow : (s : ℕ) → s < M.table.states → plan_depth s ≤ M.table.states
  unfolding plan_depth
  plan_shallow s h = let x = some s h in layers.level_low M.table.states goal back back_mono x.0 s h x.1

  pub plan_stays : (s : ℕ) → goal s ≡ true → plan_depth s ≡ 0
  unfolding plan_depth
  plan_stays s e = layers.level_goal M.table.states goal back back_mono s e

  pub plan_falls : (s : ℕ) → s < M.table.states → goal s ≡ false
      → (b : ℕ) × (b < M.table.branches s (play M.table B s)) × (plan_depth (successor M.table s (play M.table B s) b) < plan_depth s)
  unfolding plan_depth
  plan_falls s h e =
      let T = M.table in
      let c = play T B s in
      let x = some s h in
      let f = layers.level_falls T.states goal back back_mono x.0 s h x.1 e in
      let y = any_some (T.branches s c) (λ b. ltb (plan_depth (successor T s c b)) (plan_depth s)) f in
      (y.0, y.1, ltb-true (plan_depth (successor T s c y.0)) (plan_depth s) y.2)
