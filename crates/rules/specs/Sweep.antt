-- A sweep: each node in order takes the best of staying in it and of the choices that leave it
-- (Gauss-Seidel value iteration over the quotient by end components).
use Rattle.std.specs.Prelude.{ℕ, zero, suc, Bool, true, false, cond, ◌&&◌, List, ℤ, Some, None, Option, ◌==◌, int_lt, slice_set}
use Rattle.horizon.specs.Means.{Rounding, round_down, round_up}
use Rattle.components.specs.Below.{every}
use Rattle.components.specs.Inside.{inside}
use Rattle.components.specs.Nodes.{nodes, node_of, component_at}
use Rattle.rules.specs.Choosing.{eq_z, at_z}
use Rattle.rules.specs.Setting.{Setting}
use Rattle.rules.specs.Book.{Book, exit_at}
use Rattle.rules.specs.Candidates.{stay_candidate, leave_candidate, mean_of}
pub use Rattle.rules.specs.declared.exit.Candidate.{Candidate}
use Rattle.rules.specs.declared.exit.Exit.{Exit}

-- one more candidate: it is the best so far if it is the first, or larger than the best before it
abbrev pub better : Option Candidate → Candidate → Option Candidate
better None b = Some b
better (Some a) b = cond (int_lt a.value b.value) (Some b) (Some a)

-- over the leaving choices among the first n choices of s
abbrev pub over_choices : Setting → (ℕ → ℕ → ℤ) → ℕ → ℕ → Option Candidate → Option Candidate
over_choices M f s zero a = a
over_choices M f s (suc n) a =
    let b = over_choices M f s n a in
    cond (inside M.table s n) b (better b (leave_candidate f s n))

-- over those of the states of node v among the first n states
abbrev pub over_states : Setting → (ℕ → ℕ → ℤ) → ℕ → ℕ → Option Candidate → Option Candidate
over_states M f v zero a = a
over_states M f v (suc n) a =
    let b = over_states M f v n a in
    cond (node_of M.table n == v) (over_choices M f n (M.table.choices n) b) b

-- staying is the first candidate of a component, for its bound; a lone state does not stay
unfoldable pub staying : Setting → List ℤ → ℕ → Option Candidate
staying M bounds v = elim (component_at M.table v) [ None ↦ None | Some i ↦ Some (stay_candidate bounds i) ]

-- the first of the largest candidates of node v: to stay, then the leaving choices by state and choice
unfoldable pub best_of : Setting → Rounding → List ℤ → List ℤ → ℕ → Option Candidate
best_of M rounds bounds values v = over_states M (mean_of M rounds values) v M.table.states (staying M bounds v)

-- the upper side has hi and x, the lower side lo and y
abbrev pub best_x : Setting → ℕ → Book → Option Candidate
best_x M v B = best_of M round_up B.hi B.x v

abbrev pub best_y : Setting → ℕ → Book → Option Candidate
best_y M v B = best_of M round_down B.lo B.y v

-- the number and the exit of the best candidate; what was there stays if there is none
abbrev pub value_or : Option Candidate → ℤ → ℤ
value_or None z = z
value_or (Some b) z = b.value

abbrev pub exit_or : Option Candidate → Exit → Exit
exit_or None e = e
exit_or (Some b) e = b.exit

-- x and y of node v become the largest of their candidates; if y rose, the plan becomes the first that attains it
unfoldable pub update : Setting → ℕ → Book → Book
update M v B = record {
  vector = B.vector;
  recorded = B.recorded;
  lo = B.lo;
  hi = B.hi;
  x = slice_set B.x v (value_or (best_x M v B) (at_z B.x v));
  y = slice_set B.y v (value_or (best_y M v B) (at_z B.y v));
  plan = slice_set B.plan v
      (cond (int_lt (at_z B.y v) (value_or (best_y M v B) (at_z B.y v))) (exit_or (best_y M v B) (exit_at B.plan v)) (exit_at B.plan v));
}

-- the first n nodes in order, new numbers standing before the next node
unfoldable pub updates : Setting → ℕ → Book → Book
updates M zero B = B
updates M (suc n) B = update M n (updates M n B)

-- all nodes
unfoldable pub sweep : Setting → Book → Book
sweep M B = updates M (nodes M.table) B

-- no x and no y differs
unfoldable pub still : Setting → Book → Book → Bool
still M A B = every (nodes M.table) (λ v. eq_z (at_z A.x v) (at_z B.x v) && eq_z (at_z A.y v) (at_z B.y v))

-- what sweeps leave, and how many were made
pub record Swept : Type 0 where
  pub book : Book
  pub made : ℕ

-- at most n sweeps: they end after one that altered no x or y
unfoldable pub sweeps : Setting → ℕ → Book → Swept
sweeps M zero B = record { book = B; made = 0 }
sweeps M (suc n) B =
    elim (still M B (sweep M B)) [
      | true ↦ record { book = sweep M B; made = 1 }
      | false ↦ (let r = sweeps M n (sweep M B) in record { book = r.book; made = suc r.made })
    ]
