-- The book after a node is settled.
use Rattle.std.proofs.Common.{◌≡◌, ℕ, cond, List, set, ℤ, vec_items, Option, sym, ap, ◌∙◌, subst}
use lib.Signed.{lt_z}
use Rattle.std.specs.Vec.{with_items}
use Rattle.table.specs.Table.{Table}
use Rattle.table.specs.Limits.{Lawful}
use Rattle.rules.specs.Choosing.{at_z}
use Rattle.rules.specs.Setting.{Setting, setting_of}
use Rattle.rules.specs.Book as rules
use Rattle.rules.specs.Sweep.{best_x, best_y, value_or, exit_or, update}
use Rattle.rules.specs.Fit.{Fit}
use Rattle.rules.specs.declared.exit.Candidate.{Candidate}
use Rattle.rules.specs.declared.exit.Exit.{Exit}
use Rattle.rules.proofs.Updates.{update_fit}
use Rattle.book.specs.Books.{book_of, Kept}
use Rattle.book.specs.declared.book.Book.{Book}
use Rattle.book.proofs.Sweeps.{written}

-- what settling a node writes: the book with it is the update
module _ (T : Table) (v : ℕ) (b : Book) (upper lower : Option Candidate) (is-upper : upper ≡ best_x (setting_of T) v (book_of b)) (is-lower : lower ≡ best_y (setting_of T) v (book_of b))
    (x y : List ℤ) (plan : List Exit) (before : ℤ) (is-before : before ≡ at_z (vec_items b.y) v)
    (wx : x ≡ set (vec_items b.x) v (value_or upper (at_z (vec_items b.x) v))) (wy : y ≡ set (vec_items b.y) v (value_or lower (at_z (vec_items b.y) v)))
    (wp : plan ≡ set (vec_items b.plan) v (cond (lt_z before (value_or lower before)) (exit_or lower (rules.exit_at (vec_items b.plan) v)) (rules.exit_at (vec_items b.plan) v))) where
  -- the book with what was settled
  abbrev pub settled_book : Book
  settled_book = record {
    vector = b.vector;
    recorded = b.recorded;
    lo = b.lo;
    hi = b.hi;
    x = with_items b.x x;
    y = with_items b.y y;
    plan = with_items b.plan plan;
    halfway = b.halfway;
    marks = b.marks;
  }

  pub settled : book_of settled_book ≡ update (setting_of T) v (book_of b)
  unfolding update
  settled =
      let M : Setting = setting_of T in
      let B : rules.Book = book_of b in
      let best-x : Option Candidate = best_x M v B in
      let best-y : Option Candidate = best_y M v B in
      let new-x : ℤ = value_or best-x (at_z B.x v) in
      let new-y : ℤ = value_or best-y (at_z B.y v) in
      let new-exit : Exit = cond (lt_z (at_z B.y v) new-y) (exit_or best-y (rules.exit_at B.plan v)) (rules.exit_at B.plan v) in
      let x1 : x ≡ set B.x v new-x = wx ∙ ap (λ (o : Option Candidate). set B.x v (value_or o (at_z B.x v))) is-upper in
      let y1 : y ≡ set B.y v new-y = wy ∙ ap (λ (o : Option Candidate). set B.y v (value_or o (at_z B.y v))) is-lower in
      let plan1 : plan ≡ set B.plan v new-exit =
      wp
      ∙ ap (λ (z : ℤ). set B.plan v (cond (lt_z z (value_or lower z)) (exit_or lower (rules.exit_at B.plan v)) (rules.exit_at B.plan v))) is-before
      ∙ ap (λ (o : Option Candidate). set B.plan v (cond (lt_z (at_z B.y v) (value_or o (at_z B.y v))) (exit_or o (rules.exit_at B.plan v)) (rules.exit_at B.plan v))) is-lower in
      let made : List ℤ → List ℤ → List Exit → rules.Book =
      λ x y plan. record { vector = B.vector; recorded = B.recorded; lo = B.lo; hi = B.hi; x = x; y = y; plan = plan } in
      let y-now : List ℤ = vec_items (with_items b.y y) in
      let plan-now : List Exit = vec_items (with_items b.plan plan) in
      ap (λ (l : List ℤ). made l y-now plan-now) (written b.x x v new-x b.x.ok.0 x1)
      ∙ ap (λ (l : List ℤ). made (set B.x v new-x) l plan-now) (written b.y y v new-y b.y.ok.0 y1)
      ∙ ap (λ (l : List Exit). made (set B.x v new-x) (set B.y v new-y) l) (written b.plan plan v new-exit b.plan.ok.0 plan1)

  -- it keeps what a book keeps
  pub settled_kept : Lawful T → Kept T b → Kept T settled_book
  settled_kept L K = record {
    fit = subst (λ (A : rules.Book). Fit (setting_of T) A) (sym settled) (update_fit (setting_of T) L v (book_of b) K.fit);
    natural = K.natural;
    halfway = K.halfway;
    marks = K.marks;
    room = K.room;
  }
