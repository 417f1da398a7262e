-- An update keeps the law of an update, and nothing else does; a sweep is one update after the other.
use Rattle.std.proofs.Common.{◌≡◌, ℕ, zero, suc, ◌<◌, ◌≤◌, ◌≤ℤ◌, ◌<ℤ◌, sym, refl, ap, ◌∙◌, subst, ⊎_elim, arith}
use Rattle.std.proofs.lemmas.Int.{by_lt_z}
use Rattle.std.proofs.lemmas.Bool.{cases_eq, cond-true, cond-false}
use Rattle.table.specs.Limits.{Lawful}
use Rattle.horizon.specs.Means.{round_down, round_up}
use Rattle.horizon.specs.Ring.{lin}
use Rattle.components.specs.Nodes.{nodes}
use Rattle.rules.specs.Setting.{Setting}
use Rattle.rules.specs.Choosing.{at, at_z}
use Rattle.rules.specs.Book.{Book, exit_at}
use Rattle.rules.specs.Fit.{Lengths}
use Rattle.rules.specs.Candidates.{CandidateOf}
use Rattle.rules.specs.Sweep.{Candidate, best_y, exit_or, update, updates, sweep}
use Rattle.rules.specs.Meaning.{TheOnly, UpdateLaw, SweepLaw}
use Rattle.rules.proofs.Order.{lt_lt_z, le_lt_z}
use Rattle.rules.proofs.Sides.{lower_side, upper_side}
use Rattle.rules.proofs.Updates.{best, best_is, value_is, exit_is, new_y, new_exit, rises, x_here, x_other, y_here, y_other, plan_here, plan_other, update_lengths}
use Rattle.rules.proofs.Same.{best_one, same_book}

module _ (M : Setting) (L : Lawful M.table) (v : ℕ) (B : Book) (l : v < nodes M.table) (S : Lengths M B) where
  abbrev chosen : Candidate
  chosen = best M L round_down lower_side B.lo B.y v l

  new_y_is : at_z (update M v B).y v ≡ chosen.value
  new_y_is = y_here M v B (let q = S.y in omega arith) ∙ value_is M L round_down lower_side B.lo B.y v l (at_z B.y v)

  new_plan : exit_at (update M v B).plan v ≡ new_exit M v B
  new_plan = plan_here M v B (let q = S.plan in omega arith)

  rose : at_z B.y v <ℤ chosen.value → exit_at (update M v B).plan v ≡ chosen.exit
  rose u =
      let e = value_is M L round_down lower_side B.lo B.y v l (at_z B.y v) in
      new_plan ∙ cond-true (rises M v B) (exit_or (best_y M v B) (exit_at B.plan v)) (exit_at B.plan v) (lt_lt_z (at_z B.y v) (new_y M v B) (omega (arith, lin)))
      ∙ exit_is M L round_down lower_side B.lo B.y v l (exit_at B.plan v)

  stayed : chosen.value ≤ℤ at_z B.y v → exit_at (update M v B).plan v ≡ exit_at B.plan v
  stayed u =
      let e = value_is M L round_down lower_side B.lo B.y v l (at_z B.y v) in
      new_plan ∙ cond-false (rises M v B) (exit_or (best_y M v B) (exit_at B.plan v)) (exit_at B.plan v) (le_lt_z (at_z B.y v) (new_y M v B) (omega (arith, lin)))

  pub update_law : UpdateLaw M v B (update M v B)
  unfolding update
  update_law = record {
    upper = best M L round_up upper_side B.hi B.x v l;
    is_upper = best_is M L round_up upper_side B.hi B.x v l;
    x = x_here M v B (let q = S.x in omega arith) ∙ value_is M L round_up upper_side B.hi B.x v l (at_z B.x v);
    lower = chosen;
    is_lower = best_is M L round_down lower_side B.lo B.y v l;
    y = new_y_is;
    rises = rose;
    stays = stayed;
    others = λ w h n. (x_other M v B w n, y_other M v B w n, plan_other M v B w n);
    lengths = update_lengths M v B S;
    vector = refl;
    recorded = refl;
    lo = refl;
    hi = refl;
  }

-- two books of which the law holds are the same
module _ (M : Setting) (v : ℕ) (B A C : Book) (P : UpdateLaw M v B A) (Q : UpdateLaw M v B C) where
  same_upper : P.upper ≡ Q.upper
  same_upper = best_one (CandidateOf M round_up B.hi B.x v) P.upper Q.upper P.is_upper Q.is_upper

  same_lower : P.lower ≡ Q.lower
  same_lower = best_one (CandidateOf M round_down B.lo B.y v) P.lower Q.lower P.is_lower Q.is_lower

  same_x : at_z A.x v ≡ at_z C.x v
  same_x = P.x ∙ ap (λ (b : Candidate). b.value) same_upper ∙ sym Q.x

  same_y : at_z A.y v ≡ at_z C.y v
  same_y = P.y ∙ ap (λ (b : Candidate). b.value) same_lower ∙ sym Q.y

  same_exit : exit_at A.plan v ≡ exit_at C.plan v
  same_exit =
      let e : P.lower.value ≡ Q.lower.value = ap (λ (b : Candidate). b.value) same_lower in
      by_lt_z (at_z B.y v) P.lower.value
      (λ (k : at_z B.y v <ℤ P.lower.value). P.rises k ∙ ap (λ (b : Candidate). b.exit) same_lower ∙ sym (Q.rises (omega (arith, lin))))
      (λ (k : P.lower.value ≤ℤ at_z B.y v). P.stays k ∙ sym (Q.stays (omega (arith, lin))))

  pub same_update : A ≡ C
  same_update = same_book M A C P.lengths Q.lengths (record {
    vector = λ s h. ap (λ xs. at xs s) (P.vector ∙ sym Q.vector);
    recorded = λ s h. ap (λ xs. at xs s) (P.recorded ∙ sym Q.recorded);
    lo = λ k h. ap (λ xs. at_z xs k) (P.lo ∙ sym Q.lo);
    hi = λ k h. ap (λ xs. at_z xs k) (P.hi ∙ sym Q.hi);
    x = λ w h.
        ⊎_elim (λ (e : w ≡ v). rw e same_x) (λ (n : w ≡ v → ⊥). (P.others w h n).0 ∙ sym (Q.others w h n).0) (cases_eq w v);
    y = λ w h.
        ⊎_elim (λ (e : w ≡ v). rw e same_y) (λ (n : w ≡ v → ⊥). (P.others w h n).1 ∙ sym (Q.others w h n).1) (cases_eq w v);
    plan = λ w h.
        ⊎_elim (λ (e : w ≡ v). rw e same_exit) (λ (n : w ≡ v → ⊥). (P.others w h n).2 ∙ sym (Q.others w h n).2) (cases_eq w v);
  })

module _ (M : Setting) (L : Lawful M.table) (B : Book) (S : Lengths M B) where
  pub the_update : (v : ℕ) → v < nodes M.table → TheOnly (UpdateLaw M v B) (update M v B)
  the_update v l =
      let w = update_law M L v B l S in
      record { has = w; only = λ A x. same_update M v B A (update M v B) x w }

  updates_lengths : (n : ℕ) → Lengths M (updates M n B)
  unfolding updates
  updates_lengths zero = S
  updates_lengths (suc n) = update_lengths M n (updates M n B) (updates_lengths n)

  next_update : (n : ℕ) → n < nodes M.table → UpdateLaw M n (updates M n B) (updates M (suc n) B)
  unfolding updates
  next_update n l = update_law M L n (updates M n B) l (updates_lengths n)

  sweep_law : SweepLaw M B (sweep M B)
  unfolding sweep updates
  sweep_law = record { books = λ n. updates M n B; first = refl; updates = next_update; last = refl }

  -- updates in order make the same books
  same_books : (A : Book) (w : SweepLaw M B A) (n : ℕ) → n ≤ nodes M.table → w.books n ≡ updates M n B
  unfolding updates
  same_books A w zero h = w.first
  same_books A w (suc n) h =
      let e = same_books A w n (omega arith) in
      let l : n < nodes M.table = omega arith in
      same_update M n (updates M n B) (w.books (suc n)) (updates M (suc n) B)
      (subst (λ (X : Book). UpdateLaw M n X (w.books (suc n))) e (w.updates n l)) (next_update n l)

  pub the_sweep : TheOnly (SweepLaw M B) (sweep M B)
  unfolding sweep
  the_sweep = record { has = sweep_law; only = λ A w. sym w.last ∙ same_books A w (nodes M.table) (omega arith) }
