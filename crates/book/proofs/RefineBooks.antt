-- The book after a step, list by list.
use Rattle.std.proofs.Common.{◌≡◌, ℕ, zero, suc, ◌^◌, ◌<◌, ◌≤◌, Bool, true, false, cond, not, ◌&&◌, List, [], ◌∷◌, map, length, get_or, set, ℤ, pos, ◌-ℤ◌, nat_abs, ◌≤ℤ◌, vec_items, vec_len, sym, refl, ap, ◌∙◌, subst, arith}
use mathlib.Core.Path.{fun_ext}
use lib.Signed.{lt_z}
use Rattle.std.proofs.lemmas.List.FromFn.{fill_by_all}
use Rattle.std.proofs.lemmas.List.{length-map}
use Rattle.std.proofs.lemmas.Bool.{and_parts}
use Rattle.table.specs.Table.{Table}
use Rattle.table.specs.Limits.{Lawful}
use Rattle.horizon.specs.Ring.{lin}
use Rattle.components.specs.Nodes.{components, states_of}
use Rattle.rules.specs.Choosing.{at, at_z, smallest, tabulate}
use Rattle.rules.specs.Setting.{Setting, setting_of}
use Rattle.rules.specs.Book as rules
use Rattle.rules.specs.Refine.{least_down, attains, halfway, shifted, held, next_vector, next_hi, next_lo, next_recorded, step}
use Rattle.rules.specs.Fit.{Fit}
use Rattle.rules.proofs.Steps.{step_fit}
use Rattle.rules.specs.declared.exit.Exit.{Exit}
use Rattle.book.specs.Books.{book_of, HasRoom, Kept}
use Rattle.book.specs.Inside.{vector_of}
use Rattle.book.specs.declared.book.Book.{Book}
use Rattle.book.proofs.Halves.{shifted_is}
use Rattle.book.proofs.RunSums.{natural_is}

pub vector_at : (v : List ℤ) (s : ℕ) → vector_of v s ≡ at (map nat_abs v) s
vector_at [] s = refl
vector_at (x ∷ v) zero = refl
vector_at (x ∷ v) (suc s) = vector_at v s

pub same_vector : (v : List ℤ) → vector_of v ≡ at (map nat_abs v)
same_vector v = fun_ext (vector_at v)

-- what the vector of the code keeps
pub kept_size : (T : Table) (b : Book) → Kept T b → (w : List ℤ) → w ≡ vec_items b.vector → length w ≡ T.states
kept_size T b K w e = ap (λ (l : List ℤ). length l) e ∙ sym (length-map (vec_items b.vector) nat_abs) ∙ K.fit.lengths.vector

pub kept_natural : (T : Table) (b : Book) → Kept T b → (w : List ℤ) → w ≡ vec_items b.vector → (s : ℕ) → s < length w → pos 0 ≤ℤ get_or w s (pos 0)
kept_natural T b K w e s h =
    let z = kept_size T b K w e in
    subst (λ (l : List ℤ). pos 0 ≤ℤ get_or l s (pos 0)) (sym e) (K.natural s (omega arith))

pub kept_capped : (T : Table) (b : Book) → Kept T b → (w : List ℤ) → w ≡ vec_items b.vector → (s : ℕ) → s < length w → get_or w s (pos 0) ≤ℤ pos (2 ^ 46)
kept_capped T b K w e s h =
    let z = kept_size T b K w e in
    let c = K.fit.vector.capped s (omega arith) in
    let q : vector_of w s ≡ at (map nat_abs (vec_items b.vector)) s = vector_at w s ∙ ap (λ (l : List ℤ). at (map nat_abs l) s) e in
    let n = natural_is (get_or w s (pos 0)) (kept_natural T b K w e s h) in
    omega (arith, lin)

pub kept_small : (T : Table) (b : Book) → Kept T b → (w : List ℤ) → w ≡ vec_items b.vector → (s : ℕ) → s < T.states → vector_of w s ≤ 2 ^ 46
kept_small T b K w e s h =
    let c = K.fit.vector.capped s h in
    let q : vector_of w s ≡ at (map nat_abs (vec_items b.vector)) s = vector_at w s ∙ ap (λ (l : List ℤ). at (map nat_abs l) s) e in
    omega arith

-- the two ways of a test, one by one
cond_as : {X Y : Type 0} (g : Y → X) (b : Bool) (x y : X) (m n : Y) → (b ≡ true → x ≡ g m) → (b ≡ false → y ≡ g n) → cond b x y ≡ g (cond b m n)
cond_as g true x y m n p q = p refl
cond_as g false x y m n p q = q refl

module _ (T : Table) (L : Lawful T) (k : ℕ) (known : k < components T) (v : List ℤ)
    (natural : (s : ℕ) → s < T.states → pos 0 ≤ℤ get_or v s (pos 0)) where
  module _ (half : List ℤ) (least : ℤ) (h : Bool) (new : List ℤ)
      (is-half : (s : ℕ) → s < T.states → states_of T k s ≡ true → get_or half s (pos 0) ≡ halfway (setting_of T) (vector_of v) s)
      (is-least : least ≡ smallest T.states (states_of T k) (halfway (setting_of T) (vector_of v)))
      (is_held_lem : h ≡ held (setting_of T) (vector_of v) k)
      (moved : (s : ℕ) → s < T.states → get_or new s (pos 0) ≡ cond (states_of T k s && not h) (get_or half s (pos 0) -ℤ least) (get_or v s (pos 0))) where
    next_at : (s : ℕ) → s < T.states → get_or new s (pos 0) ≡ pos (next_vector (setting_of T) (vector_of v) k s)
    unfolding next_vector
    next_at s l =
        let M = setting_of T in
        let t = vector_of v in
        moved s l
        ∙ ap (λ (b : Bool). cond (states_of T k s && not b) (get_or half s (pos 0) -ℤ least) (get_or v s (pos 0))) is_held_lem
        ∙ cond_as pos (states_of T k s && not (held M t k)) (get_or half s (pos 0) -ℤ least) (get_or v s (pos 0)) (shifted M t k s) (t s)
        (λ e.
        let m = (and_parts (states_of T k s) (not (held M t k)) e).0 in
        let a = is-half s l m in
        let b = is-least in
        let c = shifted_is M L t k known s l m in
        omega (arith, lin))
        (λ _. natural_is (get_or v s (pos 0)) (natural s l))

    next_natural : (s : ℕ) → s < T.states → pos 0 ≤ℤ get_or new s (pos 0)
    next_natural s l = let e = next_at s l in omega (arith, lin)

    next-vector : length new ≡ T.states → map nat_abs new ≡ tabulate T.states (next_vector (setting_of T) (vector_of v) k)
    next-vector z =
        fill_by_all (next_vector (setting_of T) (vector_of v) k) (map nat_abs new) T.states 0 (length-map new nat_abs ∙ z)
        (λ s l. sym (vector_at new s) ∙ ap nat_abs (next_at s l))

  next-recorded : (marks old new : List ℕ) (rises : Bool) (l : ℤ) → length new ≡ T.states
      → ((s : ℕ) → s < T.states → states_of T k s ≡ true → at marks s ≡ attains (setting_of T) (vector_of v) s)
      → rises ≡ lt_z l (least_down (setting_of T) (vector_of v) k)
      → ((s : ℕ) → s < T.states → at new s ≡ cond (states_of T k s && rises) (at marks s) (at old s))
      → new ≡ tabulate T.states (next_recorded (setting_of T) (vector_of v) k l (at old))
  unfolding next_recorded
  next-recorded marks old new rises l z is-mark is-rising written =
      let M = setting_of T in
      let t = vector_of v in
      let up = lt_z l (least_down M t k) in
      fill_by_all (next_recorded M t k l (at old)) new T.states 0 z
      (λ s h. written s h
      ∙ ap (λ (b : Bool). cond (states_of T k s && b) (at marks s) (at old s)) is-rising
      ∙ cond_as (λ (x : ℕ). x) (states_of T k s && up) (at marks s) (at old s) (attains M t s) (at old s)
      (λ e. is-mark s h (and_parts (states_of T k s) up e).0) (λ _. refl))

-- lists that are the next ones make the next book
module _ (M : Setting) (k : ℕ) (v : List ℤ) (r : List ℕ) (lo hi x y : List ℤ) (plan : List Exit) where
  abbrev pub book_by : List ℕ → List ℕ → List ℤ → List ℤ → rules.Book
  book_by v' r' lo' hi' = record { vector = v'; recorded = r'; lo = lo'; hi = hi'; x = x; y = y; plan = plan }

  abbrev pub step_with : (ℕ → ℕ) → rules.Book
  step_with t = book_by (tabulate M.table.states (next_vector M t k)) (tabulate M.table.states (next_recorded M t k (at_z lo k) (at r)))
      (set lo k (next_lo M t k (at_z lo k))) (set hi k (next_hi M t k (at_z hi k)))

  step_by : (v' r' : List ℕ) (lo' hi' : List ℤ) → v' ≡ tabulate M.table.states (next_vector M (vector_of v) k)
      → r' ≡ tabulate M.table.states (next_recorded M (vector_of v) k (at_z lo k) (at r))
      → lo' ≡ set lo k (next_lo M (vector_of v) k (at_z lo k)) → hi' ≡ set hi k (next_hi M (vector_of v) k (at_z hi k))
      → book_by v' r' lo' hi' ≡ step M k (book_by (map nat_abs v) r lo hi)
  unfolding step
  step_by v' r' lo' hi' p q a b =
      let t = vector_of v in
      let v'' = tabulate M.table.states (next_vector M t k) in
      let r'' = tabulate M.table.states (next_recorded M t k (at_z lo k) (at r)) in
      let lo'' = set lo k (next_lo M t k (at_z lo k)) in
      ap (λ (l : List ℕ). book_by l r' lo' hi') p
      ∙ ap (λ (l : List ℕ). book_by v'' l lo' hi') q
      ∙ ap (λ (l : List ℤ). book_by v'' r'' l hi') a
      ∙ ap (λ (l : List ℤ). book_by v'' r'' lo'' l) b
      ∙ ap step_with (same_vector v)

-- the book after a step, by what its lists hold
module _ (T : Table) (L : Lawful T) (k : ℕ) (known : k < components T) (b n : Book) (K : Kept T b)
    (half : List ℤ) (marks : List ℕ) (least : ℤ) (h rises : Bool)
    (is-half : (s : ℕ) → s < T.states → states_of T k s ≡ true → get_or half s (pos 0) ≡ halfway (setting_of T) (vector_of (vec_items b.vector)) s)
    (is-mark : (s : ℕ) → s < T.states → states_of T k s ≡ true → at marks s ≡ attains (setting_of T) (vector_of (vec_items b.vector)) s)
    (is-least : least ≡ smallest T.states (states_of T k) (halfway (setting_of T) (vector_of (vec_items b.vector))))
    (is-held : h ≡ held (setting_of T) (vector_of (vec_items b.vector)) k)
    (is-rising : rises ≡ lt_z (at_z (vec_items b.lo) k) (least_down (setting_of T) (vector_of (vec_items b.vector)) k))
    (moved : (s : ℕ) → s < T.states → get_or (vec_items n.vector) s (pos 0)
    ≡ cond (states_of T k s && not h) (get_or half s (pos 0) -ℤ least) (get_or (vec_items b.vector) s (pos 0)))
    (written : (s : ℕ) → s < T.states → at (vec_items n.recorded) s ≡ cond (states_of T k s && rises) (at marks s) (at (vec_items b.recorded) s))
    (vector-size : length (vec_items n.vector) ≡ T.states) (recorded-size : length (vec_items n.recorded) ≡ T.states)
    (lo : vec_items n.lo ≡ set (vec_items b.lo) k (next_lo (setting_of T) (vector_of (vec_items b.vector)) k (at_z (vec_items b.lo) k)))
    (hi : vec_items n.hi ≡ set (vec_items b.hi) k (next_hi (setting_of T) (vector_of (vec_items b.vector)) k (at_z (vec_items b.hi) k)))
    (x : vec_items n.x ≡ vec_items b.x) (y : vec_items n.y ≡ vec_items b.y) (plan : vec_items n.plan ≡ vec_items b.plan)
    (halfway-size : vec_len n.halfway ≡ T.states) (marks-size : vec_len n.marks ≡ T.states) (room : HasRoom n) where
  next_book : book_of n ≡ step (setting_of T) k (book_of b)
  next_book =
      let v : List ℤ = vec_items b.vector in
      let made : List ℤ → List ℤ → List Exit → rules.Book =
      λ x y plan. record {
        vector = map nat_abs (vec_items n.vector);
        recorded = vec_items n.recorded;
        lo = vec_items n.lo;
        hi = vec_items n.hi;
        x = x;
        y = y;
        plan = plan;
      } in
      ap (λ (l : List ℤ). made l (vec_items n.y) (vec_items n.plan)) x
      ∙ ap (λ (l : List ℤ). made (vec_items b.x) l (vec_items n.plan)) y
      ∙ ap (λ (l : List Exit). made (vec_items b.x) (vec_items b.y) l) plan
      ∙ step_by (setting_of T) k v (vec_items b.recorded) (vec_items b.lo) (vec_items b.hi) (vec_items b.x) (vec_items b.y) (vec_items b.plan)
      (map nat_abs (vec_items n.vector)) (vec_items n.recorded) (vec_items n.lo) (vec_items n.hi)
      (next-vector T L k known v K.natural half least h (vec_items n.vector) is-half is-least is-held moved vector-size)
      (next-recorded T L k known v K.natural marks (vec_items b.recorded) (vec_items n.recorded) rises (at_z (vec_items b.lo) k) recorded-size is-mark is-rising written)
      lo hi

  pub stepped : (book_of n ≡ step (setting_of T) k (book_of b)) × Kept T n
  stepped = (
    next_book,
    record {
      fit = subst (λ (A : rules.Book). Fit (setting_of T) A) (sym next_book) (step_fit (setting_of T) L k known (book_of b) K.fit);
      natural = next_natural T L k known (vec_items b.vector) K.natural half least h (vec_items n.vector) is-half is-least is-held moved;
      halfway = halfway-size;
      marks = marks-size;
      room = room;
    },
  )
