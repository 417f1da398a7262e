use Rattle.std.proofs.Common.{◌≡◌, ℕ, ◌^◌, ◌<◌, Bool, true, false, cond, not, ◌&&◌, List, length, get_or, set, ℤ, pos, ◌-ℤ◌, neg_ℤ, ◌≤ℤ◌, vec_items, vec_len, sym, refl, ap, ◌∙◌, subst, arith, w64, SFits, to_z, of_z, rules}
use lib.Signed.{lt_z}
use Rattle.std.specs.Vec.{with_items}
use Rattle.std.proofs.lemmas.List.{with_items_is}
use Rattle.std.proofs.lemmas.Int.{to_z-of_z}
use Rattle.std.proofs.lemmas.Bool.{cond-false, and_right}
use Rattle.table.specs.Table.{Table}
use Rattle.table.specs.Limits.{Lawful}
use Rattle.components.specs.Nodes.{states_of}
use Rattle.horizon.specs.Ring.{lin}
use Rattle.rules.specs.Choosing.{at, at_z, largest, smallest}
use Rattle.rules.specs.Refine.{halfway, held, largest_up, least_down, attains, next_lo, next_hi, step}
use Rattle.rules.specs.Setting.{Setting, setting_of}
use Rattle.rules.proofs.Choosing.{largest_bound, smallest_bound}
use Rattle.book.specs.Books.{book_of, HasRoom, Kept}
use Rattle.book.specs.Layouts.{layout_table}
use Rattle.book.specs.Inside.{vector_of}
use Rattle.book.specs.declared.book.Book.{Book}
use Rattle.book.specs.declared.layout.Layout.{Layout}
use Rattle.book.proofs.Halves.{held_is, least_within, largest_within}
use Rattle.book.proofs.RefineBooks.{same_vector, kept_size, kept_natural, kept_capped, kept_small, stepped}
use Rattle.book.proofs.Layouts.{law}
use Rattle.book.proofs.refine.refine_step.Goals as goal
use Rattle.book.proofs.refine.refine_step.Goals.{Joined-rises, then-rises, else-rises}

pub invariant_of-vector : goal.invariant_of-vector
invariant_of-vector c =
    let T : Table = layout_table c.args.layout.now in
    let b : Book = c.args.book.now in
    let K = c.requires.kept in
    let w : List ℤ = c.deref.result.now in
    record {
      size = kept_size T b K w c.deref.ensures.value;
      natural = kept_natural T b K w c.deref.ensures.value;
      capped = kept_capped T b K w c.deref.ensures.value;
    }

pub apart-held-requires : goal.apart-held-requires
apart-held-requires c =
    let f : Layout = c.args.layout.now in
    let b : Book = c.args.book.now in
    let K = c.requires.kept in
    let w : List ℤ = c.deref.result.now in
    let small = kept_small (layout_table f) b K w c.deref.ensures.value in
    record {
      least = subst (λ (z : ℤ). (neg_ℤ (pos (2 ^ 50)) ≤ℤ z) × (z ≤ℤ pos (2 ^ 50))) (sym c.survey-found.ensures.least)
          (least_within (layout_table f) (law c.args.layout.now) (vector_of w) small c.args.component c.requires.component);
      largest = subst (λ (z : ℤ). (neg_ℤ (pos (2 ^ 50)) ≤ℤ z) × (z ≤ℤ pos (2 ^ 50))) (sym c.survey-found.ensures.largest)
          (largest_within (layout_table f) (law c.args.layout.now) (vector_of w) small c.args.component c.requires.component);
    }

-- a test with one that holds
and_on : (a b : Bool) → b ≡ true → (a && b) ≡ a
and_on true b e = e
and_on false b e = refl

-- what the code has found, and the book where the choices are recorded
module _ (c : Joined-rises) where
  abbrev T : Table
  T = layout_table c.args.layout.now

  L : Lawful T
  L = law c.args.layout.now

  abbrev b : Book
  b = c.args.book.now

  K : Kept T b
  K = c.requires.kept

  abbrev k : ℕ
  k = c.args.component

  abbrev M : Setting
  M = setting_of T

  abbrev t : ℕ → ℕ
  t = vector_of (vec_items b.vector)

  was : c.deref.result.now ≡ vec_items b.vector
  was = c.deref.ensures.value

  half-size : length c.survey-found.new.halfway ≡ vec_len b.halfway
  half-size =
      let e = ap (λ (l : List ℤ). length l) c.deref_mut.ensures.value in
      let o = b.halfway.ok.0 in
      let q = c.survey-found.auto.halfway in
      omega arith

  marks-size : length c.survey-found.new.marks ≡ vec_len b.marks
  marks-size =
      let e = ap (λ (l : List ℕ). length l) c.deref_mut-2.ensures.value in
      let o = b.marks.ok.0 in
      let q = c.survey-found.auto.marks in
      omega arith

  at-half : (s : ℕ) → s < T.states → states_of T k s ≡ true → get_or c.survey-found.new.halfway s (pos 0) ≡ halfway M t s
  at-half s h m = c.survey-found.ensures.halfway s h m ∙ ap (λ (l : List ℤ). halfway M (vector_of l) s) was

  at_mark : (s : ℕ) → s < T.states → states_of T k s ≡ true → at c.survey-found.new.marks s ≡ attains M t s
  at_mark s h m = c.survey-found.ensures.marks s h m ∙ ap (λ (l : List ℤ). attains M (vector_of l) s) was

  is-least : c.survey-found.result.least ≡ smallest T.states (states_of T k) (halfway M t)
  is-least = c.survey-found.ensures.least ∙ ap (λ (l : List ℤ). smallest T.states (states_of T k) (halfway M (vector_of l))) was

  is-largest : c.survey-found.result.largest ≡ largest T.states (states_of T k) (halfway M t)
  is-largest = c.survey-found.ensures.largest ∙ ap (λ (l : List ℤ). largest T.states (states_of T k) (halfway M (vector_of l))) was

  is_held : c.apart-held.result ≡ held M t k
  is_held =
      c.apart-held.ensures
      ∙ ap (λ (z : ℤ). lt_z (pos (2 ^ 46)) (z -ℤ c.survey-found.result.least)) is-largest
      ∙ ap (λ (z : ℤ). lt_z (pos (2 ^ 46)) (largest T.states (states_of T k) (halfway M t) -ℤ z)) is-least
      ∙ sym (held_is M L t k c.requires.component)

  down-read : to_z w64 (of_z w64 c.survey-found.result.down) ≡ least_down M t k
  down-read =
      let f : SFits w64 c.survey-found.result.down = search rules in
      to_z-of_z w64 c.survey-found.result.down f ∙ c.survey-found.ensures.down ∙ ap (λ (l : List ℤ). least_down M (vector_of l) k) was

  up-read : to_z w64 (of_z w64 c.survey-found.result.up) ≡ largest_up M t k
  up-read =
      let f : SFits w64 c.survey-found.result.up = search rules in
      to_z-of_z w64 c.survey-found.result.up f ∙ c.survey-found.ensures.up ∙ ap (λ (l : List ℤ). largest_up M (vector_of l) k) was

  is-rising : c.raise-rises.result ≡ lt_z (at_z (vec_items b.lo) k) (least_down M t k)
  is-rising =
      c.raise-rises.ensures.rises
      ∙ ap (λ (z : ℤ). lt_z (at_z c.deref_mut-3.result.now k) z) down-read
      ∙ ap (λ (l : List ℤ). lt_z (at_z l k) (least_down M t k)) c.deref_mut-3.ensures.value

  lo-is : vec_items (with_items b.lo c.raise-rises.new.lo) ≡ set (vec_items b.lo) k (next_lo M t k (at_z (vec_items b.lo) k))
  unfolding next_lo
  lo-is =
      let e = ap (λ (l : List ℤ). length l) c.deref_mut-3.ensures.value in
      let o = b.lo.ok.0 in
      let q = c.raise-rises.auto.lo in
      let z : length c.raise-rises.new.lo ≡ vec_len b.lo = omega arith in
      with_items_is b.lo c.raise-rises.new.lo z
      ∙ c.raise-rises.ensures.bound
      ∙ ap (λ (z : ℤ). set c.deref_mut-3.result.now k (cond (lt_z (at_z c.deref_mut-3.result.now k) z) z (at_z c.deref_mut-3.result.now k))) down-read
      ∙ ap (λ (l : List ℤ). set l k (next_lo M t k (at_z l k))) c.deref_mut-3.ensures.value

  hi-is : vec_items (with_items b.hi c.lower.new.hi) ≡ set (vec_items b.hi) k (next_hi M t k (at_z (vec_items b.hi) k))
  unfolding next_hi
  hi-is =
      let e = ap (λ (l : List ℤ). length l) c.deref_mut-4.ensures.value in
      let o = b.hi.ok.0 in
      let q = c.lower.auto.hi in
      let z : length c.lower.new.hi ≡ vec_len b.hi = omega arith in
      with_items_is b.hi c.lower.new.hi z
      ∙ c.lower.ensures
      ∙ ap (λ (z : ℤ). set c.deref_mut-4.result.now k (cond (lt_z z (at_z c.deref_mut-4.result.now k)) z (at_z c.deref_mut-4.result.now k))) up-read
      ∙ ap (λ (l : List ℤ). set l k (next_hi M t k (at_z l k))) c.deref_mut-4.ensures.value

  -- the book at this moment, which differs in its recorded choices alone between the ways here
  abbrev mid : Book → Book
  mid n = record {
    vector = b.vector;
    recorded = n.recorded;
    lo = with_items b.lo c.raise-rises.new.lo;
    hi = with_items b.hi c.lower.new.hi;
    x = b.x;
    y = b.y;
    plan = b.plan;
    halfway = with_items b.halfway c.survey-found.new.halfway;
    marks = with_items b.marks c.survey-found.new.marks;
  }

  joined : (c.if-rises.book ≡ mid c.if-rises.book) × (length (vec_items c.if-rises.book.recorded) ≡ T.states)
      × ((s : ℕ) → s < T.states → at (vec_items c.if-rises.book.recorded) s
      ≡ cond (states_of T k s && c.raise-rises.result) (at c.survey-found.new.marks s) (at (vec_items b.recorded) s))
  joined =
      let all : length (vec_items b.recorded) ≡ T.states = K.fit.lengths.recorded in
      elim c.if-rises.branch [
        | then-rises w ↦ (
            let new : List ℕ = w.record_marks.new.recorded in
            let e = ap (λ (l : List ℕ). length l) w.deref_mut-then-rises.ensures.value in
            let q = w.record_marks.auto.recorded in
            let o = b.recorded.ok.0 in
            let z : length new ≡ vec_len b.recorded = omega arith in
            let i : vec_items c.if-rises.book.recorded ≡ new = ap (λ (n : Book). vec_items n.recorded) w.book-is ∙ with_items_is b.recorded new z in
            let mark : w.deref-then-rises.result.now ≡ c.survey-found.new.marks =
            w.deref-then-rises.ensures.value ∙ with_items_is b.marks c.survey-found.new.marks marks-size in (
              w.book-is ∙ ap mid (sym w.book-is),
              ap (λ (l : List ℕ). length l) i ∙ z ∙ o ∙ all,
              λ s h. ap (λ (l : List ℕ). at l s) i
                  ∙ w.record_marks.ensures s h
                  ∙ ap (λ (l : List ℕ). cond (states_of T k s) (at l s) (at w.deref_mut-then-rises.result.now s)) mark
                  ∙ ap (λ (l : List ℕ). cond (states_of T k s) (at c.survey-found.new.marks s) (at l s)) w.deref_mut-then-rises.ensures.value
                  ∙ ap (λ (x : Bool). cond x (at c.survey-found.new.marks s) (at (vec_items b.recorded) s)) (sym (and_on (states_of T k s) c.raise-rises.result w.if-rises.true)),
            ))
        | else-rises w ↦ (
            let i : vec_items c.if-rises.book.recorded ≡ vec_items b.recorded = ap (λ (n : Book). vec_items n.recorded) w.book-is in (
              w.book-is ∙ ap mid (sym w.book-is),
              ap (λ (l : List ℕ). length l) i ∙ all,
              λ s h. ap (λ (l : List ℕ). at l s) i
                  ∙ sym (cond-false (states_of T k s && c.raise-rises.result) (at c.survey-found.new.marks s) (at (vec_items b.recorded) s)
                  (and_right (states_of T k s) c.raise-rises.result w.if-rises.false)),
            ))
      ]

  -- its lists keep their room
  full : HasRoom c.if-rises.book
  full =
      elim c.if-rises.branch [
        | then-rises w ↦ subst HasRoom (sym w.book-is) K.room
        | else-rises w ↦ subst HasRoom (sym w.book-is) K.room
      ]

  halfway-is : vec_items c.if-rises.book.halfway ≡ c.survey-found.new.halfway
  halfway-is = ap (λ (n : Book). vec_items n.halfway) joined.0 ∙ with_items_is b.halfway c.survey-found.new.halfway half-size

  -- a book that differs from this one in its vector alone, which is the next one
  module _ (n : Book)
      (moved : (s : ℕ) → s < T.states → get_or (vec_items n.vector) s (pos 0)
      ≡ cond (states_of T k s && not c.apart-held.result) (get_or c.survey-found.new.halfway s (pos 0) -ℤ c.survey-found.result.least) (get_or (vec_items b.vector) s (pos 0)))
      (size : length (vec_items n.vector) ≡ T.states) (same : record { vector = n.vector; recorded = c.if-rises.book.recorded; lo = c.if-rises.book.lo; hi = c.if-rises.book.hi; x = c.if-rises.book.x; y = c.if-rises.book.y; plan = c.if-rises.book.plan; halfway = c.if-rises.book.halfway; marks = c.if-rises.book.marks } ≡ n) (room : HasRoom n) where
    next : (book_of n ≡ step M k (book_of b)) × Kept T n
    next =
        let m = joined.0 in
        subst (λ (n : Book). (book_of n ≡ step M k (book_of b)) × Kept T n) same
        (stepped T L k c.requires.component b _ K c.survey-found.new.halfway c.survey-found.new.marks c.survey-found.result.least c.apart-held.result c.raise-rises.result
        at-half at_mark is-least is_held is-rising moved joined.2 size joined.1
        (ap (λ (a : Book). vec_items a.lo) m ∙ lo-is) (ap (λ (a : Book). vec_items a.hi) m ∙ hi-is)
        (ap (λ (a : Book). vec_items a.x) m) (ap (λ (a : Book). vec_items a.y) m) (ap (λ (a : Book). vec_items a.plan) m)
        (ap (λ (a : Book). vec_len a.halfway) m ∙ K.halfway) (ap (λ (a : Book). vec_len a.marks) m ∙ K.marks)
        (subst HasRoom (sym same) room))

pub shift-requires : goal.shift-requires
shift-requires c =
    let j = (goal.at.shift-requires c).Joined-rises in
    let T : Table = layout_table c.args.layout.now in
    let k : ℕ = c.args.component in
    let half : c.deref-then-not-held.result.now ≡ c.survey-found.new.halfway = c.deref-then-not-held.ensures.value ∙ halfway-is j in
    let fl : SFits w64 c.survey-found.result.least = search rules in
    let off : c.apart-held.result ≡ false = c.if-not-held.true in
    let at : (s : ℕ) → s < T.states → states_of T k s ≡ true → get_or c.deref-then-not-held.result.now s (pos 0) ≡ halfway (setting_of T) (t j) s =
    λ s h m. ap (λ (l : List ℤ). get_or l s (pos 0)) half ∙ at-half j s h m in
    record {
      component = c.requires.component;
      size = (
        kept_size T c.args.book.now (K j) c.deref_mut-then-not-held.result.now
            (c.deref_mut-then-not-held.ensures.value ∙ ap (λ (n : Book). vec_items n.vector) (joined j).0),
        ap (λ (l : List ℤ). length l) half ∙ half-size j ∙ (K j).halfway,
      );
      above = λ s h m.
          (let a = smallest_bound T.states (states_of T k) (halfway (setting_of T) (t j)) s h m in
          let q = at s h m in
          let e = is-least j in
          simp to_z-of_z (omega (arith, lin)));
      near = λ s h m.
          (let a = largest_bound T.states (states_of T k) (halfway (setting_of T) (t j)) s h m in
          let q = at s h m in
          let e = is-largest j in
          let y : lt_z (pos (2 ^ 46)) (c.survey-found.result.largest -ℤ c.survey-found.result.least) ≡ false = sym c.apart-held.ensures ∙ off in
          simp to_z-of_z (omega (arith, lin)));
    }

pub returns-then-not-held : goal.returns-then-not-held
returns-then-not-held c =
    let j = (goal.at.returns-then-not-held c).Joined-rises in
    let T : Table = layout_table c.args.layout.now in
    let k : ℕ = c.args.component in
    let b : Book = c.args.book.now in
    let jb : Book = c.if-rises.book in
    let new : List ℤ = c.shift.new.vector in
    let old : c.deref_mut-then-not-held.result.now ≡ vec_items b.vector =
    c.deref_mut-then-not-held.ensures.value ∙ ap (λ (n : Book). vec_items n.vector) (joined j).0 in
    let half : c.deref-then-not-held.result.now ≡ c.survey-found.new.halfway = c.deref-then-not-held.ensures.value ∙ halfway-is j in
    let e = ap (λ (l : List ℤ). length l) c.deref_mut-then-not-held.ensures.value in
    let q = c.shift.auto.vector in
    let o = jb.vector.ok.0 in
    let z : length new ≡ vec_len jb.vector = omega arith in
    let i : vec_items (with_items jb.vector new) ≡ new = with_items_is jb.vector new z in
    let size : length new ≡ T.states = (let a = kept_size T b (K j) _ old in omega arith) in
    let fl : SFits w64 c.survey-found.result.least = search rules in
    let least-read = to_z-of_z w64 c.survey-found.result.least fl in
    let on : not c.apart-held.result ≡ true = ap not c.if-not-held.true in
    let n : Book = record { vector = with_items jb.vector new; recorded = jb.recorded; lo = jb.lo; hi = jb.hi; x = jb.x; y = jb.y; plan = jb.plan; halfway = jb.halfway; marks = jb.marks } in
    let r = next j n
    (λ s h. ap (λ (l : List ℤ). get_or l s (pos 0)) i ∙ c.shift.ensures s h
    ∙ ap (λ (z : ℤ). cond (states_of T k s) (get_or c.deref-then-not-held.result.now s (pos 0) -ℤ z) (get_or c.deref_mut-then-not-held.result.now s (pos 0))) least-read
    ∙ ap (λ (l : List ℤ). cond (states_of T k s) (get_or l s (pos 0) -ℤ c.survey-found.result.least) (get_or c.deref_mut-then-not-held.result.now s (pos 0))) half
    ∙ ap (λ (l : List ℤ). cond (states_of T k s) (get_or c.survey-found.new.halfway s (pos 0) -ℤ c.survey-found.result.least) (get_or l s (pos 0))) old
    ∙ ap (λ (x : Bool). cond x (get_or c.survey-found.new.halfway s (pos 0) -ℤ c.survey-found.result.least) (get_or (vec_items b.vector) s (pos 0)))
    (sym (and_on (states_of T k s) (not c.apart-held.result) on)))
    (ap (λ (l : List ℤ). length l) i ∙ size) refl (full j) in
    record { book = r.0; held = is_held j ∙ ap (λ (u : ℕ → ℕ). held (setting_of T) u k) (same_vector (vec_items b.vector)); kept = r.1 }

pub returns-else-not-held : goal.returns-else-not-held
returns-else-not-held c =
    let j = (goal.at.returns-else-not-held c).Joined-rises in
    let T : Table = layout_table c.args.layout.now in
    let k : ℕ = c.args.component in
    let b : Book = c.args.book.now in
    let jb : Book = c.if-rises.book in
    let i : vec_items jb.vector ≡ vec_items b.vector = ap (λ (n : Book). vec_items n.vector) (joined j).0 in
    let off : not c.apart-held.result ≡ false = ap not c.if-not-held.false in
    let r = next j jb
    (λ s h. ap (λ (l : List ℤ). get_or l s (pos 0)) i
    ∙ sym (cond-false (states_of T k s && not c.apart-held.result) (get_or c.survey-found.new.halfway s (pos 0) -ℤ c.survey-found.result.least) (get_or (vec_items b.vector) s (pos 0))
    (and_right (states_of T k s) (not c.apart-held.result) off)))
    (kept_size T b (K j) _ i) refl (full j) in
    record { book = r.0; held = is_held j ∙ ap (λ (u : ℕ → ℕ). held (setting_of T) u k) (same_vector (vec_items b.vector)); kept = r.1 }
