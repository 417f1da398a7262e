-- The best candidate of a node is the first of its largest ones, and every node has one.
use Rattle.std.proofs.Common.{◌≡◌, ℕ, zero, suc, ◌<◌, ◌≤◌, Bool, true, false, eqb, ◌⊎◌, List, ℤ, Some, None, Option, sym, refl, ap, ◌∙◌, subst, inl, inr, ⊎_elim, arith}
use lib.Signed.{lt_z}
use Rattle.std.proofs.lemmas.Bool.{cases_eq, cases_Bool, both_ways, cond_both, eq-eqb, eqb-true}
use Rattle.table.specs.Limits.{Lawful}
use Rattle.horizon.specs.Means.{Rounding}
use Rattle.horizon.specs.Ring.{lin}
use Rattle.components.specs.Inside.{inside}
use Rattle.components.specs.Nodes.{nodes, node_of, in_component, component_of, lowest_of, component_at}
use Rattle.rules.specs.Choosing.{at_z}
use Rattle.rules.specs.Setting.{Setting}
use Rattle.rules.specs.Sweep.{Candidate, better, over_choices, over_states, staying, best_of}
use Rattle.rules.specs.Candidates.{stay_candidate, leave_candidate, mean_of, CandidateOf, stays, leaves, Earlier, FirstBest}
use Rattle.rules.specs.declared.exit.Exit.{Exit}
use Rattle.rules.specs.declared.exit.Exit.TheVariants.{Stay, Leave}
use Rattle.rules.proofs.Nodes.{none_inside, lowest_state, lowest_node, component_some}

-- no two exits are each earlier than the other
asym : (a b : Exit) → Earlier a b → Earlier b a → ⊥
asym Stay Stay p q = p
asym Stay (Leave t d) p q = q
asym (Leave s c) Stay p q = p
asym (Leave s c) (Leave t d) p q =
    elim p [
      | inl l ↦ elim q [ inl m ↦ (let z : ⊥ = omega arith in z) | inr y ↦ (let e = y.0 in let z : ⊥ = omega arith in z) ]
      | inr x ↦ (let f = x.0 in let g = x.1 in
          elim q [ inl m ↦ (let z : ⊥ = omega arith in z) | inr y ↦ (let m = y.1 in let z : ⊥ = omega arith in z) ])
    ]

-- the best of what is a candidate so far, if there is one
abbrev BestSoFar : (Candidate → Type 0) → Option Candidate → Type 0
BestSoFar C None = (a : Candidate) → C a → ⊥
BestSoFar C (Some b) = FirstBest C b

-- one more candidate, later than all before it
one_more : (C : Candidate → Type 0) (n : Candidate) (r : Option Candidate) → BestSoFar C r
    → ((a : Candidate) → C a → Earlier a.exit n.exit) → BestSoFar (λ a. C a ⊎ (a ≡ n)) (better r n)
one_more C n None w later = record {
  candidate = inr refl;
  largest = λ a x. elim x [ inl c ↦ absurd (w a c) | inr e ↦ (let q : a.value ≡ n.value = ap (λ (z : Candidate). z.value) e in omega (arith, lin)) ];
  first = λ a x l. elim x [
    | inl c ↦ absurd (w a c)
    | inr e ↦ absurd (let m = subst (λ (z : Candidate). Earlier z.exit n.exit) e l in asym n.exit n.exit m m)
  ];
}
one_more C n (Some b) w later =
    cond_both (lt_z b.value n.value) (Some n) (Some b) (BestSoFar (λ a. C a ⊎ (a ≡ n)))
    (λ f. record {
      candidate = inr refl;
      largest = λ a x. elim x [
        | inl c ↦ (let q = w.largest a c in omega (arith, lin))
        | inr e ↦ (let q : a.value ≡ n.value = ap (λ (z : Candidate). z.value) e in omega (arith, lin))
      ];
      first = λ a x l. elim x [
        | inl c ↦ (let q = w.largest a c in omega (arith, lin))
        | inr e ↦ absurd (let m = subst (λ (z : Candidate). Earlier z.exit n.exit) e l in asym n.exit n.exit m m)
      ];
    })
    (λ f. record {
      candidate = inl w.candidate;
      largest = λ a x. elim x [
        | inl c ↦ w.largest a c
        | inr e ↦ (let q : a.value ≡ n.value = ap (λ (z : Candidate). z.value) e in omega (arith, lin))
      ];
      first = λ a x l. elim x [
        | inl c ↦ w.first a c l
        | inr e ↦ absurd (asym b.exit n.exit (later b w.candidate) (subst (λ (z : Candidate). Earlier z.exit b.exit) e l))
      ];
    })

-- the same candidates have the same best
same_best : (C D : Candidate → Type 0) (r : Option Candidate) → BestSoFar C r
    → ((a : Candidate) → C a → D a) → ((a : Candidate) → D a → C a) → BestSoFar D r
same_best C D None w to from = λ a x. w a (from a x)
same_best C D (Some b) w to from = record {
  candidate = to b w.candidate;
  largest = λ a x. w.largest a (from a x);
  first = λ a x l. w.first a (from a x) l;
}

none_some : (i : ℕ) → None ≡ Some i → ⊥
none_some i q = both_ways true (ap (λ (o : Option ℕ). elim o as (λ _. Bool) [ None ↦ false | Some j ↦ true ]) (sym q)) refl

some_same : (i j : ℕ) → Some i ≡ Some j → i ≡ j
some_same i j q = ap (λ (o : Option ℕ). elim o as (λ _. ℕ) [ None ↦ 0 | Some k ↦ k ]) q

module _ (M : Setting) (f : ℕ → ℕ → ℤ) (bounds : List ℤ) (v : ℕ) where
  -- the candidates of the states below n, and of the choices below m of the state n
  data UpTo (n m : ℕ) (a : Candidate) : Type 0 where
    stayed : (i : ℕ) → component_at M.table v ≡ Some i → a ≡ stay_candidate bounds i → UpTo n m a
    left : (s c : ℕ) → node_of M.table s ≡ v → c < M.table.choices s → inside M.table s c ≡ false
        → (s < n) ⊎ ((s ≡ n) × (c < m)) → a ≡ leave_candidate f s c → UpTo n m a

  -- before the first choice there is staying alone
  none_yet : (a : Candidate) → component_at M.table v ≡ None → UpTo 0 0 a → ⊥
  none_yet a e x =
      elim x [
        | stayed i g q ↦ none_some i (sym e ∙ g)
        | left s c n k o p q ↦ elim p [ inl l ↦ (let z : ⊥ = omega arith in z) | inr y ↦ (let l = y.1 in let z : ⊥ = omega arith in z) ]
      ]

  only_stay : (i : ℕ) (a : Candidate) → component_at M.table v ≡ Some i → UpTo 0 0 a → a ≡ stay_candidate bounds i
  only_stay i a e x =
      elim x [
        | stayed j g q ↦ q ∙ ap (stay_candidate bounds) (some_same j i (sym g ∙ e))
        | left s c n k o p q ↦ absurd (elim p [ inl l ↦ (let z : ⊥ = omega arith in z) | inr y ↦ (let l = y.1 in let z : ⊥ = omega arith in z) ])
      ]

  start_best : BestSoFar (UpTo 0 0) (staying M bounds v)
  unfolding staying
  start_best = from (component_at M.table v) refl
    where
      from : (o : Option ℕ) → component_at M.table v ≡ o
          → BestSoFar (UpTo 0 0) (elim o as (λ _. Option Candidate) [ None ↦ None | Some i ↦ Some (record { value = at_z bounds i; exit = Stay }) ])
      from None e = λ a x. none_yet a e x
      from (Some i) e = record {
        candidate = stayed i e refl;
        largest = λ a x. let q : a.value ≡ at_z bounds i = ap (λ (z : Candidate). z.value) (only_stay i a e x) in omega (arith, lin);
        first = λ a x l. absurd (subst (λ (z : Candidate). Earlier z.exit Stay) (only_stay i a e x) l);
      }

  -- the choices of the state n, of node v, one by one
  choices_best : (n : ℕ) → node_of M.table n ≡ v → (m : ℕ) → m ≤ M.table.choices n → (r : Option Candidate) → BestSoFar (UpTo n 0) r
      → BestSoFar (UpTo n m) (over_choices M f n m r)
  choices_best n here zero l r w = w
  choices_best n here (suc m) l r w =
      let b = over_choices M f n m r in
      let ih = choices_best n here m (omega arith) r w in
      cond_both (inside M.table n m) b (better b (leave_candidate f n m)) (BestSoFar (UpTo n (suc m)))
      (λ i. same_best (UpTo n m) (UpTo n (suc m)) b ih (λ a x. wider a x) (λ a x. skipped i a x))
      (λ i.
      same_best (λ a. UpTo n m a ⊎ (a ≡ leave_candidate f n m)) (UpTo n (suc m)) (better b (leave_candidate f n m))
      (one_more (UpTo n m) (leave_candidate f n m) b ih before)
      (λ a x. elim x [ inl y ↦ wider a y | inr q ↦ left n m here l i (inr (refl, omega arith)) q ])
      (λ a x. taken a x))
    where
      wider : (a : Candidate) → UpTo n m a → UpTo n (suc m) a
      wider a x =
          elim x [
            | stayed i g q ↦ stayed i g q
            | left s c e k o p q ↦ left s c e k o (elim p [ inl y ↦ inl y | inr y ↦ inr (y.0, (let z = y.1 in omega arith)) ]) q
          ]

      taken : (a : Candidate) → UpTo n (suc m) a → UpTo n m a ⊎ (a ≡ leave_candidate f n m)
      taken a x =
          elim x [
            | stayed i g q ↦ inl (stayed i g q)
            | left s c e k o p q ↦ elim p [
              | inl y ↦ inl (left s c e k o (inl y) q)
              | inr y ↦
                  ⊎_elim
                  (λ (u : c ≡ m). inr (q ∙ ap (λ (t : ℕ). leave_candidate f t c) y.0 ∙ ap (leave_candidate f n) u))
                  (λ (u : c ≡ m → ⊥). inl (left s c e k o (inr (y.0, (let z = y.1 in omega arith))) q))
                  (cases_eq c m)
            ]
          ]

      skipped : inside M.table n m ≡ true → (a : Candidate) → UpTo n (suc m) a → UpTo n m a
      skipped i a x =
          elim x [
            | stayed j g q ↦ stayed j g q
            | left s c e k o p q ↦ elim p [
              | inl y ↦ left s c e k o (inl y) q
              | inr y ↦
                  ⊎_elim
                  (λ (u : c ≡ m).
                  let g : inside M.table n m ≡ false = rw (← u) (rw (← y.0) o) in
                  absurd (both_ways (inside M.table n m) g i))
                  (λ (u : c ≡ m → ⊥). left s c e k o (inr (y.0, (let z = y.1 in omega arith))) q)
                  (cases_eq c m)
            ]
          ]

      before : (a : Candidate) → UpTo n m a → Earlier a.exit (Leave n m)
      before a x =
          elim x [
            | stayed i g q ↦ subst (λ (z : Candidate). Earlier z.exit (Leave n m)) (sym q) tt
            | left s c e k o p q ↦ subst (λ (z : Candidate). Earlier z.exit (Leave n m)) (sym q) p
          ]

  -- the states one by one
  states_best : (n : ℕ) → BestSoFar (UpTo n 0) (over_states M f v n (staying M bounds v))
  states_best zero = start_best
  states_best (suc n) =
      let b = over_states M f v n (staying M bounds v) in
      let ih = states_best n in
      cond_both (eqb (node_of M.table n) v) (over_choices M f n (M.table.choices n) b) b (BestSoFar (UpTo (suc n) 0))
      (λ e.
      same_best (UpTo n (M.table.choices n)) (UpTo (suc n) 0) (over_choices M f n (M.table.choices n) b)
      (choices_best n (eqb-true (node_of M.table n) v e) (M.table.choices n) (omega arith) b ih) passed begun)
      (λ e. same_best (UpTo n 0) (UpTo (suc n) 0) b ih (λ a x. first_none a x) (λ a x. other e a x))
    where
      passed : (a : Candidate) → UpTo n (M.table.choices n) a → UpTo (suc n) 0 a
      passed a x =
          elim x [
            | stayed i g q ↦ stayed i g q
            | left s c e k o p q ↦ left s c e k o (inl (elim p [ inl y ↦ omega arith | inr y ↦ (let z = y.0 in omega arith) ])) q
          ]

      begun : (a : Candidate) → UpTo (suc n) 0 a → UpTo n (M.table.choices n) a
      begun a x =
          elim x [
            | stayed i g q ↦ stayed i g q
            | left s c e k o p q ↦
                ⊎_elim
                (λ (u : s ≡ n). left s c e k o (inr (u, rw (← u) k)) q)
                (λ (u : s ≡ n → ⊥). left s c e k o (inl (elim p [ inl y ↦ omega arith | inr y ↦ (let z = y.1 in let w : ⊥ = omega arith in absurd w) ])) q)
                (cases_eq s n)
          ]

      first_none : (a : Candidate) → UpTo n 0 a → UpTo (suc n) 0 a
      first_none a x =
          elim x [
            | stayed i g q ↦ stayed i g q
            | left s c e k o p q ↦ left s c e k o (inl (elim p [ inl y ↦ omega arith | inr y ↦ (let z = y.0 in omega arith) ])) q
          ]

      other : eqb (node_of M.table n) v ≡ false → (a : Candidate) → UpTo (suc n) 0 a → UpTo n 0 a
      other g a x =
          elim x [
            | stayed i h q ↦ stayed i h q
            | left s c e k o p q ↦
                ⊎_elim
                (λ (u : s ≡ n). absurd (both_ways (eqb (node_of M.table n) v) g (eq-eqb (node_of M.table n) v (rw (← u) e))))
                (λ (u : s ≡ n → ⊥). left s c e k o (inl (elim p [ inl y ↦ omega arith | inr y ↦ (let z = y.1 in let w : ⊥ = omega arith in absurd w) ])) q)
                (cases_eq s n)
          ]

module _ (M : Setting) (L : Lawful M.table) (rounds : Rounding) (bounds values : List ℤ) (v : ℕ) where
  abbrev pub Candidates : Candidate → Type 0
  Candidates = CandidateOf M rounds bounds values v

  abbrev Seen : Candidate → Type 0
  Seen = UpTo M (mean_of M rounds values) bounds v M.table.states 0

  seen : (a : Candidate) → Seen a → Candidates a
  seen a x =
      elim x [
        | stayed i g q ↦ stays i g q
        | left s c e k o p q ↦
            leaves s c (record {
              choice = record { state = elim p [ inl y ↦ y | inr y ↦ (let z = y.1 in let w : ⊥ = omega arith in absurd w) ]; choice = k };
              node = e;
              out = o;
            }) q
      ]

  unseen : (a : Candidate) → Candidates a → Seen a
  unseen a x =
      elim x [
        | stays i g q ↦ stayed i g q
        | leaves s c w q ↦ left s c w.node w.choice.choice w.out (inl w.choice.state) q
      ]

  -- every node has a candidate
  some_candidate : v < nodes M.table → (a : Candidate) × Candidates a
  some_candidate l =
      let s = lowest_of M.table v in
      let h = lowest_state M.table L v l in
      let q = lowest_node M.table L v l in
      ⊎_elim
      (λ (e : in_component M.table s ≡ true).
      (stay_candidate bounds (component_of M.table s), stays (component_of M.table s) (component_some M.table L v s h q e) refl))
      (λ (e : in_component M.table s ≡ false). (
        leave_candidate (mean_of M rounds values) s 0,
        leaves s 0 (record { choice = record { state = h; choice = (L.choices s h).0 }; node = q; out = none_inside M.table L s 0 e }) refl,
      ))
      (cases_Bool (in_component M.table s))

  pub best_first : v < nodes M.table → (b : Candidate) × (best_of M rounds bounds values v ≡ Some b) × FirstBest Candidates b
  unfolding best_of
  best_first l = from (best_of M rounds bounds values v) refl (states_best M (mean_of M rounds values) bounds v M.table.states)
    where
      from : (r : Option Candidate) → best_of M rounds bounds values v ≡ r → BestSoFar Seen r
          → (b : Candidate) × (best_of M rounds bounds values v ≡ Some b) × FirstBest Candidates b
      from None e w = let x = some_candidate l in absurd (w x.0 (unseen x.0 x.1))
      from (Some b) e w = (b, e, same_best Seen Candidates (Some b) w seen unseen)
