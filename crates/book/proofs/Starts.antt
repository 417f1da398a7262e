-- What the lists of the start hold.
use Rattle.std.proofs.Common.{◌≡◌, ℕ, zero, suc, ◌+◌, ◌<◌, Bool, true, false, eqb, List, ◌∷◌, map, length, get_or, replicate, ℤ, pos, nat_abs, Some, None, vec_items, vec_len, filter, Option, sym, refl, ap, ◌∙◌, subst, ⊎_elim, arith}
use Rattle.std.specs.List.{range_with_len}
use Rattle.std.specs.Option.{unwrap_or}
use Rattle.std.proofs.lemmas.List.{length-map, get_or-replicate}
use Rattle.std.proofs.lemmas.Int.{ints}
use Rattle.std.proofs.lemmas.Bool.{cases_Bool, both_ways, cond-true, cond-false}
use Rattle.table.specs.Table.{Table}
use Rattle.table.specs.Limits.{Lawful}
use Rattle.components.specs.Below.{first}
use Rattle.components.specs.Inside.{inside}
use Rattle.components.specs.Nodes.{nodes, node_of, components, in_component, lowest_of, component_at}
use Rattle.components.proofs.Labels.{first_is}
use Rattle.rules.specs.Book as rules
use Rattle.rules.specs.Book.{start}
use Rattle.rules.specs.Choosing.{tabulate}
use Rattle.rules.specs.Fit.{Fit}
use Rattle.rules.specs.Setting.{setting_of, bottom, top}
use Rattle.rules.specs.declared.exit.Exit.{Exit}
use Rattle.rules.specs.declared.exit.Exit.TheVariants.{Stay, Leave}
use Rattle.rules.proofs.Nodes.{inside_component, inside_choice, lowest_state}
use Rattle.rules.proofs.Start.{start_fit}
use Rattle.book.specs.declared.book.Book.{Book}
use Rattle.book.specs.Books.{book_of, HasRoom, Kept}
use Rattle.book.specs.Facts.{node_states}
use Rattle.book.specs.Starts.{first_inside, first_exit, Sized, Started}
use Rattle.book.proofs.Searches.{Found}

-- the recorded choice
module _ (T : Table) (L : Lawful T) (s : ℕ) where
  inside_found : (c : ℕ) → c < T.choices s → inside T s c ≡ true → ((d : ℕ) → d < c → inside T s d ≡ false) → c ≡ first_inside T s
  inside_found c l e h =
      sym (cond-true (in_component T s) (first (T.choices s) (inside T s)) 0 (inside_component T L s c e)
      ∙ first_is (T.choices s) (inside T s) c l e h)

  inside_missing : ((d : ℕ) → d < T.choices s → inside T s d ≡ false) → 0 ≡ first_inside T s
  inside_missing h =
      ⊎_elim
      (λ (e : in_component T s ≡ true). let x = inside_choice T L s e in absurd (both_ways (inside T s x.0) (h x.0 x.1) x.2))
      (λ (e : in_component T s ≡ false). sym (cond-false (in_component T s) (first (T.choices s) (inside T s)) 0 e))
      (cases_Bool (in_component T s))

  pub inside_of : (r : Option ℕ) → Found (T.choices s) (inside T s) r → unwrap_or r 0 ≡ first_inside T s
  inside_of None m = inside_missing (λ d l. m d (omega arith) l)
  inside_of (Some c) m = inside_found c m.1 m.2 (λ d l. m.3 d (omega arith) l)

-- the first number that passes is the first of those that are kept
kept_head : (p : ℕ → Bool) (n a : ℕ) (q : ℕ → Bool) → ((i : ℕ) → q i ≡ p (a + i)) → first n q < n
    → (ys : List ℕ) × (filter p (range_with_len a n) ≡ (a + first n q) ∷ ys)
unfolding first
kept_head p zero a q h l = absurd (omega arith)
kept_head p (suc n) a q h l =
    let rest : List ℕ = filter p (range_with_len (a + 1) n) in
    let later : ℕ = first n (λ i. q (suc i)) in
    let z : a + 0 ≡ a = omega arith in
    let here : p a ≡ q 0 = sym (h 0 ∙ ap p z) in
    ⊎_elim
    (λ (e : q 0 ≡ true).
    let f : first (suc n) q ≡ 0 = cond-true (q 0) 0 (suc later) e in
    let g : a ≡ a + first (suc n) q = omega arith in
    (rest, cond-true (p a) (a ∷ rest) rest (here ∙ e) ∙ ap (λ (x : ℕ). x ∷ rest) g))
    (λ (e : q 0 ≡ false).
    let f : first (suc n) q ≡ suc later = cond-false (q 0) 0 (suc later) e in
    let w = kept_head p n (a + 1) (λ i. q (suc i)) (λ i. let y : a + suc i ≡ (a + 1) + i = omega arith in h (suc i) ∙ ap p y) (omega arith) in
    let g : (a + 1) + later ≡ a + first (suc n) q = omega arith in
    (w.0, cond-false (p a) (a ∷ rest) rest (here ∙ e) ∙ w.1 ∙ ap (λ (x : ℕ). x ∷ w.0) g))
    (cases_Bool (q 0))

-- the first member of a node is its lowest state
pub first_member : (T : Table) → Lawful T → (v : ℕ) → v < nodes T → (ms : List ℕ) → ms ≡ node_states T v → (0 < length ms) × (get_or ms 0 0 ≡ lowest_of T v)
unfolding lowest_of
first_member T L v h ms all =
    let p : ℕ → Bool = λ s. eqb (node_of T s) v in
    let w = kept_head p T.states 0 p (λ i. ap p (omega arith)) (lowest_state T L v h) in
    let g : 0 + first T.states p ≡ first T.states p = omega arith in
    let l = ap length (all ∙ w.1) in
    (omega arith, ap (λ (zs : List ℕ). get_or zs 0 0) (all ∙ w.1) ∙ g)

leaves : (o : Option ℕ) (l a : ℕ) → o ≡ None → a ≡ l → Leave a 0 ≡ elim o [ Some i ↦ Stay | None ↦ Leave l 0 ]
leaves None l a e q = ap (λ (x : ℕ). Leave x 0) q
leaves (Some i) l a e q = absurd (let z : ◌≡◌ {A = ℕ} 0 1 = cc in omega arith)

pub exit_leaves : (T : Table) (v a : ℕ) → component_at T v ≡ None → a ≡ lowest_of T v → Leave a 0 ≡ first_exit T v
exit_leaves T v a e q = leaves (component_at T v) (lowest_of T v) a e q

-- a book with the lists of the start
no_size : (n : ℕ) → map nat_abs (replicate n (pos 0)) ≡ replicate n 0
no_size zero = refl
no_size (suc n) = ap (λ (xs : List ℕ). 0 ∷ xs) (no_size n)

abbrev make : List ℕ → List ℕ → List ℤ → List ℤ → List ℤ → List ℤ → List Exit → rules.Book
make t r lo hi x y p = record { vector = t; recorded = r; lo = lo; hi = hi; x = x; y = y; plan = p }

same : (t t' r r' : List ℕ) (lo lo' hi hi' x x' y y' : List ℤ) (p p' : List Exit)
    → t ≡ t' → r ≡ r' → lo ≡ lo' → hi ≡ hi' → x ≡ x' → y ≡ y' → p ≡ p' → make t r lo hi x y p ≡ make t' r' lo' hi' x' y' p'
same t t' r r' lo lo' hi hi' x x' y y' p p' a b c d e f g = rw (a, b, c, d, e, f, g) refl

-- the code's lists hold the start, list by list; `Started` says it of the book that they stand for
pub record Holds (T : Table) (b : Book) : Type 0 where
  pub vector : vec_items b.vector ≡ replicate T.states (pos 0)
  pub recorded : vec_items b.recorded ≡ tabulate T.states (first_inside T)
  pub lo : vec_items b.lo ≡ replicate (components T) (bottom (setting_of T))
  pub hi : vec_items b.hi ≡ replicate (components T) (top (setting_of T))
  pub x : vec_items b.x ≡ replicate (nodes T) (top (setting_of T))
  pub y : vec_items b.y ≡ replicate (nodes T) (bottom (setting_of T))
  pub plan : vec_items b.plan ≡ tabulate (nodes T) (first_exit T)
  pub halfway : vec_len b.halfway ≡ T.states
  pub marks : vec_len b.marks ≡ T.states
  pub room : HasRoom b

module _ (T : Table) (L : Lawful T) (b : Book) (h : Holds T b) where
  book_is : book_of b ≡ start (setting_of T)
  unfolding start
  book_is =
      same (map nat_abs (vec_items b.vector)) (replicate T.states 0) (vec_items b.recorded) (tabulate T.states (first_inside T))
      (vec_items b.lo) (replicate (components T) (bottom (setting_of T))) (vec_items b.hi) (replicate (components T) (top (setting_of T)))
      (vec_items b.x) (replicate (nodes T) (top (setting_of T))) (vec_items b.y) (replicate (nodes T) (bottom (setting_of T)))
      (vec_items b.plan) (tabulate (nodes T) (first_exit T))
      (ap (map nat_abs) h.vector ∙ no_size T.states) h.recorded h.lo h.hi h.x h.y h.plan

  pub started : Started T b
  started = record {
    start = book_is;
    kept = record {
      fit = subst (Fit (setting_of T)) (sym book_is) (start_fit (setting_of T) L);
      natural = λ s l. (
          let e : get_or (vec_items b.vector) s (pos 0) ≡ pos 0 = ap (λ (zs : List ℤ). get_or zs s (pos 0)) h.vector ∙ get_or-replicate T.states s (pos 0) (pos 0) l in
          omega (arith, ints));
      halfway = h.halfway;
      marks = h.marks;
      room = h.room;
    };
  }

-- a book that keeps what a book keeps has its places
pub kept_sized : (T : Table) (b : Book) → Kept T b → Sized T b
kept_sized T b k =
    let l = k.fit.lengths in
    let m = length-map (vec_items b.vector) nat_abs in
    record {
      vector = let o = b.vector.ok.0 in let e = l.vector in omega arith;
      recorded = let o = b.recorded.ok.0 in let e = l.recorded in omega arith;
      lo = let o = b.lo.ok.0 in let e = l.lo in omega arith;
      hi = let o = b.hi.ok.0 in let e = l.hi in omega arith;
      x = let o = b.x.ok.0 in let e = l.x in omega arith;
      y = let o = b.y.ok.0 in let e = l.y in omega arith;
      plan = let o = b.plan.ok.0 in let e = l.plan in omega arith;
      halfway = k.halfway;
      marks = k.marks;
      room = k.room;
    }
