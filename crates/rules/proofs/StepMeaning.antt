-- A step keeps the law of a step, and nothing else does.
use Rattle.std.proofs.Common.{◌≡◌, ℕ, ◌<◌, ◌≤◌, Bool, true, false, not, ◌&&◌, ◌||◌, leb, pos, ◌-ℤ◌, ◌≤ℤ◌, ◌<ℤ◌, sym, refl, ap, ◌∙◌, ⊎_elim, arith}
use lib.Signed.{lt_z}
use borrow.Author.Differences.{abs_is}
use Rattle.std.proofs.lemmas.Int.{by_lt_z}
use Rattle.std.proofs.lemmas.Bool.{cases_eq, cases_Bool, cases_lt, both_ways, and_from, or_left, or_right, or_parts, not-true, not-false, not_from_true, not_from_false, le-leb, cond-true, cond-false}
use Rattle.table.specs.Limits.{Lawful}
use Rattle.horizon.specs.Means.{Rounding, round_down, round_up}
use Rattle.horizon.specs.Ring.{lin, more, once}
use Rattle.horizon.specs.Rounding.{down_below, down_next}
use Rattle.components.specs.Below.{every}
use Rattle.components.specs.Inside.{inside}
use Rattle.components.specs.Nodes.{components, in_component, states_of}
use Rattle.components.proofs.Below.{every_from, every_fails, first_none}
use Rattle.rules.specs.Setting.{Setting}
use Rattle.rules.specs.Choosing.{at, at_z, eq_z, smallest}
use Rattle.rules.specs.Book.{Book, exit_at}
use Rattle.rules.specs.Fit.{Lengths}
use Rattle.rules.specs.Refine.{worth, best, gain, largest_up, least_down, attains, halfway, shifted, held, next_hi, next_lo, step}
use Rattle.rules.specs.Meaning.{TheOnly, FirstWith, Largest, StateOf, choice_gain, GainLaw, HiLaw, LoLaw, VectorLaw, OthersStay, StepLaw}
use Rattle.rules.proofs.Order.{eq_z_from, lt_lt_z, le_lt_z}
use Rattle.rules.proofs.Choosing.{smallest_bound}
use Rattle.rules.proofs.Nodes.{of_component, some_state}
use Rattle.rules.proofs.StepFacts.{best_bound, best_reached, attains_names, attains_inside, attains_best, shifted_capped}
use Rattle.rules.proofs.Steps.{hi_here, hi_other, lo_here, lo_other, recorded_here, recorded_other, recorded_same, vector_here, vector_other, vector_held, step_lengths}
use Rattle.rules.proofs.Same.{first_one, largest_one, smallest_one, the_largest, the_smallest, same_book}

-- The numbers of a step

module _ (M : Setting) (L : Lawful M.table) (t : ℕ → ℕ) where
  largest_gain : (rounds : Rounding) (s : ℕ) → in_component M.table s ≡ true
      → Largest (M.table.choices s) (inside M.table s) (choice_gain M rounds t s) (gain M rounds t s)
  largest_gain rounds s e =
      let x = best_reached M L rounds t s e in
      let q = x.3 in
      record {
        bounds = λ c l i. let a = best_bound M L rounds t s c i in omega (arith, lin);
        attained = (x.0, x.1, x.2, omega (arith, lin));
      }

  gain_law : (s : ℕ) → in_component M.table s ≡ true → GainLaw M t s
  unfolding halfway
  gain_law s e =
      let z = gain M round_down t s in
      let r = round_down z 2 in
      let h = halfway M t s -ℤ pos (t s) in
      let a = down_below z 2 (omega arith) in
      let b = down_next z 2 (omega arith) in
      let m = more 1 r in
      let o = once r in
      let m' = more 1 h in
      let o' = once h in
      record { up = largest_gain round_up s e; down = largest_gain round_down s e; half = omega (arith, lin); next = omega (arith, lin) }

module _ (M : Setting) (L : Lawful M.table) (t : ℕ → ℕ) (k : ℕ) where
  abbrev small : ℕ → Bool
  small s = not (states_of M.table k s) || leb (shifted M t k s) M.cap

  -- a step is held exactly if a number of the next vector is above H
  not_held : ((s : ℕ) → s < M.table.states → states_of M.table k s ≡ true → shifted M t k s ≤ M.cap) → held M t k ≡ false
  unfolding held
  not_held w =
      not_from_true (every M.table.states small) (every_from M.table.states small
      (λ s h.
      ⊎_elim
      (λ (m : states_of M.table k s ≡ true).
      or_right (not (states_of M.table k s)) (leb (shifted M t k s) M.cap) (le-leb (shifted M t k s) M.cap (w s h m)))
      (λ (m : states_of M.table k s ≡ false).
      or_left (not (states_of M.table k s)) (leb (shifted M t k s) M.cap) (not_from_false (states_of M.table k s) m))
      (cases_Bool (states_of M.table k s))))

  held_above : held M t k ≡ true → (s : ℕ) × (s < M.table.states) × (states_of M.table k s ≡ true) × (M.cap < shifted M t k s)
  unfolding held
  held_above f =
      let x = every_fails M.table.states small (not-true (every M.table.states small) f) in
      let s = x.0 in
      let w = or_parts (not (states_of M.table k s)) (leb (shifted M t k s) M.cap) x.2 in
      (s, x.1, not-false (states_of M.table k s) w.0, above (shifted M t k s) w.1)
    where
      above : (a : ℕ) → leb a M.cap ≡ false → M.cap < a
      above a e =
          ⊎_elim (λ (l : M.cap < a). l) (λ (l : a ≤ M.cap). absurd (both_ways (leb a M.cap) e (le-leb a M.cap l))) (cases_lt M.cap a)

  -- the next vector is not negative before its sign is dropped
  next_is : (s : ℕ) → s < M.table.states → states_of M.table k s ≡ true
      → pos (shifted M t k s) ≡ halfway M t s -ℤ smallest M.table.states (states_of M.table k) (halfway M t)
  unfolding shifted
  next_is s h m =
      let b = smallest_bound M.table.states (states_of M.table k) (halfway M t) s h m in
      omega (arith, lin, abs_is)

  before_attaining : (s j : ℕ) → j < attains M t s → (inside M.table s j ≡ true) × (choice_gain M round_down t s j ≡ gain M round_down t s) → ⊥
  unfolding attains
  before_attaining s j l w =
      let p : ℕ → Bool = λ c. inside M.table s c && eq_z (worth M round_down t s c) (best M round_down t s) in
      let q = w.1 in
      both_ways (p j) (first_none (M.table.choices s) p j l)
      (and_from (inside M.table s j) (eq_z (worth M round_down t s j) (best M round_down t s)) w.0
      (eq_z_from (worth M round_down t s j) (best M round_down t s) (omega (arith, lin))))

  first_attaining : (s : ℕ) → in_component M.table s ≡ true
      → FirstWith (M.table.choices s) (λ c. (inside M.table s c ≡ true) × (choice_gain M round_down t s c ≡ gain M round_down t s)) (attains M t s)
  first_attaining s e =
      let q = attains_best M L t k s e in
      record {
        below = attains_names M L t k s e;
        has = (attains_inside M L t k s e, omega (arith, lin));
        first = before_attaining s;
      }

-- What a step leaves

module _ (M : Setting) (L : Lawful M.table) (k : ℕ) (known : k < components M.table) (B : Book) (S : Lengths M B) where
  some : (s : ℕ) × (s < M.table.states) × (states_of M.table k s ≡ true)
  some = some_state M.table L k known

  hi_law : HiLaw M k B (step M k B)
  unfolding largest_up next_hi
  hi_law =
      let u = largest_up M (at B.vector) k in
      let h = at_z B.hi k in
      let here = hi_here M k B (let q = S.hi in let l = known in omega arith) in
      record {
        most = u;
        is_largest = the_largest M.table.states (states_of M.table k) (gain M round_up (at B.vector)) some.0 some.1 some.2;
        falls = λ l. here ∙ cond-true (lt_z u h) u h (lt_lt_z u h l);
        stays = λ l. here ∙ cond-false (lt_z u h) u h (le_lt_z u h l);
      }

  lo_law : LoLaw M k B (step M k B)
  unfolding least_down next_lo
  lo_law =
      let d = least_down M (at B.vector) k in
      let l = at_z B.lo k in
      let here = lo_here M k B (let q = S.lo in let l = known in omega arith) in
      record {
        least = d;
        is_least = the_smallest M.table.states (states_of M.table k) (gain M round_down (at B.vector)) some.0 some.1 some.2;
        rises = λ r. here ∙ cond-true (lt_z l d) d l (lt_lt_z l d r);
        records = λ r s w.
            rw (recorded_here M k B (lt_lt_z l d r) s w.0 w.1) (first_attaining M L (at B.vector) k s (of_component M.table L k s w.1).0);
        stays = λ r. here ∙ cond-false (lt_z l d) d l (le_lt_z l d r);
        keeps = λ r s w. recorded_same M k B (le_lt_z l d r) s w.0;
      }

  vector_law : VectorLaw M k B (step M k B)
  vector_law =
      let m = smallest M.table.states (states_of M.table k) (halfway M (at B.vector)) in
      record {
        least = m;
        is_least = the_smallest M.table.states (states_of M.table k) (halfway M (at B.vector)) some.0 some.1 some.2;
        moves = λ f.
            let free = not_held M L (at B.vector) k (λ s h e. let a = f s (h, e) in let b = next_is M L (at B.vector) k s h e in omega (arith, lin)) in
            (free, λ s w. ap pos (vector_here M k B free s w.0 w.1) ∙ next_is M L (at B.vector) k s w.0 w.1);
        holds = λ s w above.
            let b = next_is M L (at B.vector) k s w.0 w.1 in
            ⊎_elim
            (λ (f : held M (at B.vector) k ≡ true). (f, λ (u : ℕ) (v : StateOf M.table k u). vector_held M k B f u v.0))
            (λ (f : held M (at B.vector) k ≡ false).
            let a = shifted_capped M L (at B.vector) k s w.0 w.1 f in
            absurd (let z : ⊥ = omega (arith, lin) in z))
            (cases_Bool (held M (at B.vector) k));
      }

  others_stay : OthersStay M k B (step M k B)
  unfolding step
  others_stay = record {
    lengths = step_lengths M k B S;
    hi = λ i l n. hi_other M k B i n;
    lo = λ i l n. lo_other M k B i n;
    vector = vector_other M k B;
    recorded = recorded_other M k B;
    x = refl;
    y = refl;
    plan = refl;
  }

  step_law : StepLaw M k B (step M k B)
  step_law = record {
    gains = λ s w. gain_law M L (at B.vector) s (of_component M.table L k s w.1).0;
    hi = hi_law;
    lo = lo_law;
    vector = vector_law;
    others = others_stay;
  }

  -- Two books of which the law holds are the same
  module _ (A C : Book) (P : StepLaw M k B A) (Q : StepLaw M k B C) where
    same_hi : at_z A.hi k ≡ at_z C.hi k
    same_hi =
        let e = largest_one M.table.states (states_of M.table k) (gain M round_up (at B.vector)) P.hi.most Q.hi.most P.hi.is_largest Q.hi.is_largest in
        by_lt_z P.hi.most (at_z B.hi k)
        (λ (l : P.hi.most <ℤ at_z B.hi k). P.hi.falls l ∙ e ∙ sym (Q.hi.falls (omega (arith, lin))))
        (λ (l : at_z B.hi k ≤ℤ P.hi.most). P.hi.stays l ∙ sym (Q.hi.stays (omega (arith, lin))))

    same_least : P.lo.least ≡ Q.lo.least
    same_least =
        smallest_one M.table.states (states_of M.table k) (gain M round_down (at B.vector)) P.lo.least Q.lo.least P.lo.is_least Q.lo.is_least

    same_lo : at_z A.lo k ≡ at_z C.lo k
    same_lo =
        let e = same_least in
        by_lt_z (at_z B.lo k) P.lo.least
        (λ (l : at_z B.lo k <ℤ P.lo.least). P.lo.rises l ∙ e ∙ sym (Q.lo.rises (omega (arith, lin))))
        (λ (l : P.lo.least ≤ℤ at_z B.lo k). P.lo.stays l ∙ sym (Q.lo.stays (omega (arith, lin))))

    same_recorded : (s : ℕ) → StateOf M.table k s → at A.recorded s ≡ at C.recorded s
    same_recorded s w =
        let e = same_least in
        by_lt_z (at_z B.lo k) P.lo.least
        (λ (l : at_z B.lo k <ℤ P.lo.least).
        first_one (M.table.choices s)
        (λ c. (inside M.table s c ≡ true) × (choice_gain M round_down (at B.vector) s c ≡ gain M round_down (at B.vector) s))
        (at A.recorded s) (at C.recorded s) (P.lo.records l s w) (Q.lo.records (omega (arith, lin)) s w))
        (λ (l : P.lo.least ≤ℤ at_z B.lo k). P.lo.keeps l s w ∙ sym (Q.lo.keeps (omega (arith, lin)) s w))

    same_vector : (s : ℕ) → StateOf M.table k s → at A.vector s ≡ at C.vector s
    same_vector s w =
        let f = halfway M (at B.vector) in
        let m = smallest M.table.states (states_of M.table k) f in
        let own = the_smallest M.table.states (states_of M.table k) f some.0 some.1 some.2 in
        let p = smallest_one M.table.states (states_of M.table k) f P.vector.least m P.vector.is_least own in
        let q = smallest_one M.table.states (states_of M.table k) f Q.vector.least m Q.vector.is_least own in
        ⊎_elim
        (λ (h : held M (at B.vector) k ≡ true).
        let x = held_above M L (at B.vector) k h in
        let n = next_is M L (at B.vector) k x.0 x.1 x.2 in
        let a = x.3 in
        (P.vector.holds x.0 (x.1, x.2) (omega (arith, lin))).1 s w ∙ sym ((Q.vector.holds x.0 (x.1, x.2) (omega (arith, lin))).1 s w))
        (λ (h : held M (at B.vector) k ≡ false).
        let capped : (u : ℕ) → StateOf M.table k u → (f u -ℤ m) ≤ℤ pos M.cap = λ u v.
        let n = next_is M L (at B.vector) k u v.0 v.1 in
        let a = shifted_capped M L (at B.vector) k u v.0 v.1 h in
        omega (arith, lin) in
        let x = (P.vector.moves (λ u v. let a = capped u v in omega (arith, lin))).1 s w in
        let y = (Q.vector.moves (λ u v. let a = capped u v in omega (arith, lin))).1 s w in
        omega (arith, lin))
        (cases_Bool (held M (at B.vector) k))

    same_step : A ≡ C
    same_step = same_book M A C P.others.lengths Q.others.lengths (record {
      vector = λ s h.
          ⊎_elim
          (λ (m : states_of M.table k s ≡ true). same_vector s (h, m))
          (λ (m : states_of M.table k s ≡ false). P.others.vector s h m ∙ sym (Q.others.vector s h m))
          (cases_Bool (states_of M.table k s));
      recorded = λ s h.
          ⊎_elim
          (λ (m : states_of M.table k s ≡ true). same_recorded s (h, m))
          (λ (m : states_of M.table k s ≡ false). P.others.recorded s h m ∙ sym (Q.others.recorded s h m))
          (cases_Bool (states_of M.table k s));
      lo = λ i l.
          ⊎_elim (λ (e : i ≡ k). rw e same_lo) (λ (n : i ≡ k → ⊥). P.others.lo i l n ∙ sym (Q.others.lo i l n)) (cases_eq i k);
      hi = λ i l.
          ⊎_elim (λ (e : i ≡ k). rw e same_hi) (λ (n : i ≡ k → ⊥). P.others.hi i l n ∙ sym (Q.others.hi i l n)) (cases_eq i k);
      x = λ v l. ap (λ xs. at_z xs v) (P.others.x ∙ sym Q.others.x);
      y = λ v l. ap (λ xs. at_z xs v) (P.others.y ∙ sym Q.others.y);
      plan = λ v l. ap (λ xs. exit_at xs v) (P.others.plan ∙ sym Q.others.plan);
    })

  pub the_step : TheOnly (StepLaw M k B) (step M k B)
  the_step = record { has = step_law; only = λ A w. same_step A (step M k B) w step_law }
