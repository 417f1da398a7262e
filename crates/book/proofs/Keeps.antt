-- The test of what the code's numbers keep finds just that.
use Rattle.std.proofs.Common.{◌≡◌, ℕ, Bool, true, false, ◌&&◌, eqb, ltb, leb, length, get_or, ℤ, pos, ◌≤ℤ◌, vec_items, vec_len, vec_capacity, refl, ⊎_elim, arith}
use lib.Signed.{le_z}
use Rattle.std.proofs.lemmas.Bool.{and_parts, and_from, cases_Bool, eq-eqb, eqb-true, le-leb, leb-true, lt-ltb, ltb-true}
use Rattle.table.specs.Table.{Table}
use Rattle.horizon.specs.Ring.{lin}
use Rattle.components.specs.Below.{any}
use Rattle.components.specs.Nodes.{nodes, node_of, components, states_of}
use Rattle.components.proofs.Below.{every_at, every_from, any_some, any_from}
use Rattle.rules.specs.Choosing.{at, at_z}
use Rattle.rules.specs.Setting.{Setting, setting_of, bottom, top}
use Rattle.rules.specs.Book as rules
use Rattle.rules.specs.Fit.{Lengths, VectorFits, RecordedFits, Within, ExitFits, Fit}
use Rattle.rules.specs.declared.exit.Exit.{Exit}
use Rattle.rules.specs.declared.exit.Exit.TheVariants.{Stay, Leave}
use Rattle.book.specs.Books.{book_of, HasRoom, Kept}
use Rattle.book.specs.Keeps.{lengths, vector_fits, recorded_fits, within, exit_fits, fits, has_room, keeps}
use Rattle.book.specs.declared.book.Book.{Book}

le_le_z : (a b : ℤ) → a ≤ℤ b → le_z a b ≡ true
le_le_z a b h = ⊎_elim (λ (e : le_z a b ≡ true). e) (λ (e : le_z a b ≡ false). let z : ⊥ = omega (arith, lin) in absurd z) (cases_Bool (le_z a b))

le_z_true : (a b : ℤ) → le_z a b ≡ true → a ≤ℤ b
le_z_true a b e = omega (arith, lin)

module _ (M : Setting) where
  -- a test that another follows
  split : {a b : Bool} → (a && b) ≡ true → (a ≡ true) × (b ≡ true)
  split {a} {b} e = and_parts a b e

  join : {a b : Bool} → a ≡ true → b ≡ true → (a && b) ≡ true
  join {a} {b} e f = and_from a b e f

  lengths_true : (B : rules.Book) → lengths M B ≡ true → Lengths M B
  lengths_true B e =
      let p = split e in let q = split p.1 in let r = split q.1 in let s = split r.1 in let t = split s.1 in let u = split t.1 in
      record {
        vector = eqb-true (length B.vector) M.table.states p.0;
        recorded = eqb-true (length B.recorded) M.table.states q.0;
        lo = eqb-true (length B.lo) (components M.table) r.0;
        hi = eqb-true (length B.hi) (components M.table) s.0;
        x = eqb-true (length B.x) (nodes M.table) t.0;
        y = eqb-true (length B.y) (nodes M.table) u.0;
        plan = eqb-true (length B.plan) (nodes M.table) u.1;
      }

  lengths_from : (B : rules.Book) → Lengths M B → lengths M B ≡ true
  lengths_from B l =
      join (eq-eqb (length B.vector) M.table.states l.vector)
      (join (eq-eqb (length B.recorded) M.table.states l.recorded)
      (join (eq-eqb (length B.lo) (components M.table) l.lo)
      (join (eq-eqb (length B.hi) (components M.table) l.hi)
      (join (eq-eqb (length B.x) (nodes M.table) l.x)
      (join (eq-eqb (length B.y) (nodes M.table) l.y)
      (eq-eqb (length B.plan) (nodes M.table) l.plan))))))

  vector_true : (t : ℕ → ℕ) → vector_fits M t ≡ true → VectorFits M t
  vector_true t e =
      let p = split e in
      record {
        capped = λ s h. leb-true (t s) M.cap (every_at M.table.states (λ s. leb (t s) M.cap) p.0 s h);
        rooted = λ k h.
            let a = any_some M.table.states (λ s. states_of M.table k s && eqb (t s) 0)
            (every_at (components M.table) (λ k. any M.table.states (λ s. states_of M.table k s && eqb (t s) 0)) p.1 k h) in
            let q = and_parts (states_of M.table k a.0) (eqb (t a.0) 0) a.2 in
            (a.0, a.1, q.0, eqb-true (t a.0) 0 q.1);
      }

  vector_from : (t : ℕ → ℕ) → VectorFits M t → vector_fits M t ≡ true
  vector_from t f =
      join (every_from M.table.states (λ s. leb (t s) M.cap) (λ s h. le-leb (t s) M.cap (f.capped s h)))
      (every_from (components M.table) (λ k. any M.table.states (λ s. states_of M.table k s && eqb (t s) 0)) (λ k h.
      let a = f.rooted k h in
      any_from M.table.states (λ s. states_of M.table k s && eqb (t s) 0) a.0 a.1 (join a.2 (eq-eqb (t a.0) 0 a.3))))

  recorded_true : (r : ℕ → ℕ) → recorded_fits M r ≡ true → RecordedFits M r
  recorded_true r e s h = ltb-true (r s) (M.table.choices s) (every_at M.table.states (λ s. ltb (r s) (M.table.choices s)) e s h)

  recorded_from : (r : ℕ → ℕ) → RecordedFits M r → recorded_fits M r ≡ true
  recorded_from r f = every_from M.table.states (λ s. ltb (r s) (M.table.choices s)) (λ s h. lt-ltb (r s) (M.table.choices s) (f s h))

  within_true : (n : ℕ) (z : ℕ → ℤ) → within M n z ≡ true → Within M n z
  within_true n z e i h =
      let p = and_parts (le_z (bottom M) (z i)) (le_z (z i) (top M)) (every_at n (λ i. le_z (bottom M) (z i) && le_z (z i) (top M)) e i h) in
      (le_z_true (bottom M) (z i) p.0, le_z_true (z i) (top M) p.1)

  within_from : (n : ℕ) (z : ℕ → ℤ) → Within M n z → within M n z ≡ true
  within_from n z f =
      every_from n (λ i. le_z (bottom M) (z i) && le_z (z i) (top M)) (λ i h. join (le_le_z (bottom M) (z i) (f i h).0) (le_le_z (z i) (top M) (f i h).1))

  exit_true : (v : ℕ) (x : Exit) → exit_fits M v x ≡ true → ExitFits M v x
  exit_true v Stay e = tt
  exit_true v (Leave t c) e =
      let p = split e in
      let q = split p.1 in
      (ltb-true t M.table.states p.0, eqb-true (node_of M.table t) v q.0, ltb-true c (M.table.choices t) q.1)

  exit_from : (v : ℕ) (x : Exit) → ExitFits M v x → exit_fits M v x ≡ true
  exit_from v Stay f = refl
  exit_from v (Leave t c) f =
      join (lt-ltb t M.table.states f.0) (join (eq-eqb (node_of M.table t) v f.1) (lt-ltb c (M.table.choices t) f.2))

  fits_true : (B : rules.Book) → fits M B ≡ true → Fit M B
  fits_true B e =
      let p = split e in let q = split p.1 in let r = split q.1 in let s = split r.1 in let t = split s.1 in let u = split t.1 in let v = split u.1 in
      record {
        lengths = lengths_true B p.0;
        vector = vector_true (at B.vector) q.0;
        recorded = recorded_true (at B.recorded) r.0;
        lo = within_true (components M.table) (at_z B.lo) s.0;
        hi = within_true (components M.table) (at_z B.hi) t.0;
        x = within_true (nodes M.table) (at_z B.x) u.0;
        y = within_true (nodes M.table) (at_z B.y) v.0;
        plan = λ w h. exit_true w (rules.exit_at B.plan w) (every_at (nodes M.table) (λ v. exit_fits M v (rules.exit_at B.plan v)) v.1 w h);
      }

  fits_from : (B : rules.Book) → Fit M B → fits M B ≡ true
  fits_from B f =
      join (lengths_from B f.lengths)
      (join (vector_from (at B.vector) f.vector)
      (join (recorded_from (at B.recorded) f.recorded)
      (join (within_from (components M.table) (at_z B.lo) f.lo)
      (join (within_from (components M.table) (at_z B.hi) f.hi)
      (join (within_from (nodes M.table) (at_z B.x) f.x)
      (join (within_from (nodes M.table) (at_z B.y) f.y)
      (every_from (nodes M.table) (λ v. exit_fits M v (rules.exit_at B.plan v)) (λ v h. exit_from v (rules.exit_at B.plan v) (f.plan v h)))))))))

  room_true : (b : Book) → has_room b ≡ true → HasRoom b
  room_true b e =
      let p = split e in let q = split p.1 in let r = split q.1 in let s = split r.1 in let t = split s.1 in
      let u = split t.1 in let v = split u.1 in let w = split v.1 in (
        leb-true 256 (vec_capacity b.vector) p.0,
        leb-true 256 (vec_capacity b.recorded) q.0,
        leb-true 256 (vec_capacity b.lo) r.0,
        leb-true 256 (vec_capacity b.hi) s.0,
        leb-true 256 (vec_capacity b.x) t.0,
        leb-true 256 (vec_capacity b.y) u.0,
        leb-true 256 (vec_capacity b.plan) v.0,
        leb-true 256 (vec_capacity b.halfway) w.0,
        leb-true 256 (vec_capacity b.marks) w.1,
      )

  room_from : (b : Book) → HasRoom b → has_room b ≡ true
  room_from b h =
      join (le-leb 256 (vec_capacity b.vector) h.0)
      (join (le-leb 256 (vec_capacity b.recorded) h.1)
      (join (le-leb 256 (vec_capacity b.lo) h.2)
      (join (le-leb 256 (vec_capacity b.hi) h.3)
      (join (le-leb 256 (vec_capacity b.x) h.4)
      (join (le-leb 256 (vec_capacity b.y) h.5)
      (join (le-leb 256 (vec_capacity b.plan) h.6)
      (join (le-leb 256 (vec_capacity b.halfway) h.7)
      (le-leb 256 (vec_capacity b.marks) h.8))))))))

-- the test passes exactly where the numbers keep all that
pub keeps_true : (T : Table) (b : Book) → keeps T b ≡ true → Kept T b
unfolding keeps
keeps_true T b e =
    let M = setting_of T in
    let p = split M e in let q = split M p.1 in let r = split M q.1 in let t = split M r.1 in
    record {
      fit = fits_true M (book_of b) p.0;
      natural = λ s h. le_z_true (pos 0) (get_or (vec_items b.vector) s (pos 0))
          (every_at T.states (λ s. le_z (pos 0) (get_or (vec_items b.vector) s (pos 0))) q.0 s h);
      halfway = eqb-true (vec_len b.halfway) T.states r.0;
      marks = eqb-true (vec_len b.marks) T.states t.0;
      room = room_true M b t.1;
    }

pub keeps_from : (T : Table) (b : Book) → Kept T b → keeps T b ≡ true
unfolding keeps
keeps_from T b k =
    let M = setting_of T in
    join M (fits_from M (book_of b) k.fit)
    (join M (every_from T.states (λ s. le_z (pos 0) (get_or (vec_items b.vector) s (pos 0)))
    (λ s h. le_le_z (pos 0) (get_or (vec_items b.vector) s (pos 0)) (k.natural s h)))
    (join M (eq-eqb (vec_len b.halfway) T.states k.halfway)
    (join M (eq-eqb (vec_len b.marks) T.states k.marks) (room_from M b k.room))))
