-- What a state plays: where the plan stays what is recorded, at the exit's state the exit, elsewhere a choice toward that state.
use Rattle.std.proofs.Common.{◌≡◌, ℕ, ◌<◌, true, cond, eqb, ℤ, pos, ◌*ℤ◌, ◌≤ℤ◌, sym, refl, ap, ◌∙◌, subst, ⊎_elim}
use Rattle.std.proofs.lemmas.Bool.{cases_eq, cond-true, cond-false, eq-eqb, ne_eqb}
use Rattle.table.specs.Table.{Table, successor}
use Rattle.table.specs.Limits.{Lawful}
use Rattle.horizon.specs.Sums.{branch_sum_z}
use Rattle.horizon.specs.Strategies.{PlanNames}
use Rattle.components.specs.Nodes.{node_of, in_component}
use Rattle.rules.specs.Setting.{Setting}
use Rattle.rules.specs.Choosing.{at, at_z}
use Rattle.rules.specs.Book.{Book, exit_at}
use Rattle.rules.specs.Play.{toward, play}
use Rattle.rules.specs.Sound.{LeavesFor, WorthOf, Ahead, Leads, Sound}
use Rattle.rules.specs.declared.exit.Exit.{Exit}
use Rattle.rules.specs.declared.exit.Exit.TheVariants.{Stay, Leave}
use Rattle.rules.proofs.Nodes.{node_number}
use Rattle.rules.proofs.Distances.{Nearer, toward_nearer}

-- the choice c of s is worth y, and a branch of it leads to a node that is ahead
pub record Exits (M : Setting) (y : ℕ → ℤ) (stamp : ℕ → ℕ) (s c : ℕ) : Type 0 where
  pub choice : c < M.table.choices s
  pub gain : (pos M.table.denominator *ℤ y (node_of M.table s)) ≤ℤ branch_sum_z M.table s c (λ u. y (node_of M.table u))
  pub ahead : (b : ℕ) × (b < M.table.branches s c) × Ahead y stamp (node_of M.table (successor M.table s c b)) (node_of M.table s)

-- what a state plays by an exit
abbrev pub play_by : Table → Book → ℕ → Exit → ℕ
play_by T B s e = elim e [ Stay ↦ at B.recorded s | Leave t c ↦ cond (eqb s t) c (toward T t s) ]

pub play_by_exit : (T : Table) (B : Book) (s : ℕ) (e : Exit) → exit_at B.plan (node_of T s) ≡ e → play T B s ≡ play_by T B s e
unfolding play
play_by_exit T B s e q = ap (play_by T B s) q

module _ (M : Setting) (L : Lawful M.table) (B : Book) (S : Sound M B) where
  -- how the node of s goes on
  abbrev pub exit : ℕ → Exit
  exit s = exit_at B.plan (node_of M.table s)

  abbrev stamps : ℕ → ℕ
  stamps = S.progress.0

  -- the three ways to play
  pub data Way (s : ℕ) : Type 0 where
    staying : exit s ≡ Stay → play M.table B s ≡ at B.recorded s → in_component M.table s ≡ true → Way s
    leaving : (t c : ℕ) → exit s ≡ Leave t c → Exits M (at_z B.y) stamps s (play M.table B s) → Way s
    nearing : (t c : ℕ) → exit s ≡ Leave t c → Nearer M.table L t s (play M.table B s) → Way s

  -- the exit of the node of s is worth y, and leads ahead
  pub worth_at : (s : ℕ) → s < M.table.states → (e : Exit) → exit s ≡ e → WorthOf M (at_z B.lo) (at_z B.y) (node_of M.table s) e
  worth_at s h e q = subst (WorthOf M (at_z B.lo) (at_z B.y) (node_of M.table s)) q (S.under (node_of M.table s) (node_number M.table L s h))

  leads_at : (s : ℕ) → s < M.table.states → (e : Exit) → exit s ≡ e → Leads M (at_z B.y) stamps (node_of M.table s) e
  leads_at s h e q =
      subst (Leads M (at_z B.y) stamps (node_of M.table s)) q (S.progress.2.leads (node_of M.table s) (node_number M.table L s h))

  -- the exit at its own state
  exits : (s t c : ℕ) → s ≡ t → LeavesFor M (at_z B.y) (node_of M.table s) t c → Leads M (at_z B.y) stamps (node_of M.table s) (Leave t c)
      → Exits M (at_z B.y) stamps s c
  exits s t c q w x = record {
    choice = rw q w.leaving.choice.choice;
    gain = subst (λ (a : ℕ). (pos M.table.denominator *ℤ at_z B.y (node_of M.table s)) ≤ℤ branch_sum_z M.table a c (λ u. at_z B.y (node_of M.table u)))
        (sym q) w.gain;
    ahead = subst (λ (a : ℕ). (b : ℕ) × (b < M.table.branches a c)
        × Ahead (at_z B.y) stamps (node_of M.table (successor M.table a c b)) (node_of M.table s)) (sym q) x;
  }

  pub way : (s : ℕ) → s < M.table.states → Way s
  way s h = by (exit s) refl
    where
      by : (e : Exit) → exit s ≡ e → Way s
      by Stay q = staying q (play_by_exit M.table B s Stay q) (worth_at s h Stay q s h refl).0
      by (Leave t c) q =
          let w = worth_at s h (Leave t c) q in
          ⊎_elim
          (λ (e : s ≡ t).
          leaving t c q (rw (play_by_exit M.table B s (Leave t c) q ∙ cond-true (eqb s t) c (toward M.table t s) (eq-eqb s t e))
          (exits s t c e w (leads_at s h (Leave t c) q))))
          (λ (n : s ≡ t → ⊥).
          nearing t c q (rw (play_by_exit M.table B s (Leave t c) q ∙ cond-false (eqb s t) c (toward M.table t s) (ne_eqb s t n))
          (toward_nearer M.table L t s w.leaving.choice.state h (sym w.leaving.node) n)))
          (cases_eq s t)

  pub plays : PlanNames M.table (play M.table B)
  plays s h =
      elim (way s h) [
        | staying e q i ↦ rw q (S.fit.recorded s h)
        | leaving t c e x ↦ x.choice
        | nearing t c e n ↦ n.choice
      ]
