-- The law of the walk: nothing is broken exactly on lawful tables, and what is found first is the first that is broken.
use Rattle.std.proofs.Common.{◌≡◌, ℕ, zero, suc, ◌<◌, ◌≤◌, true, false, ◌&&◌, eqb, leb, List, [], ◌∷◌, ◌++◌, ℤ, pos, neg_ℤ, ◌≤ℤ◌, Some, None, sym, refl, ap, ◌∙◌, subst, inl, inr, arith}
use lib.Signed.{le_z}
use Rattle.std.proofs.ByRecursion.{All-append}
use Rattle.std.proofs.lemmas.Int.{ints}
use Rattle.std.proofs.lemmas.Bool.{and_parts, and_from, cases_Bool, cases_eq, cond-true, cond-false, eq-eqb, eqb-true, le-leb, leb-true, lt-ltb, ltb-true, not-true, not_from_false, both_ways, or_from, ne_eqb}
use Rattle.std.specs.List.{AllByRecursion}
use Rattle.table.specs.Sums.{sum_n}
use Rattle.table.specs.Table.{Table, successor, weight}
use Rattle.table.specs.Limits.{Lawful}
use Rattle.table.specs.Faults.{Limit, kept, leads_to}
use Rattle.table.specs.Walk.{each, branch_walk, choice_walk, state_walk, walk, first_broken}
use Rattle.table.specs.Law.{WalkLaw}
use Rattle.table.specs.declared.fault.Fault.{Fault}
use Rattle.table.specs.declared.fault.Fault.TheVariants.{States, Denominator, Choices, Reward, Branches, Successor, Weight, Repeated, Sum}
use Rattle.table.proofs.Walks.{leads_found}

-- A limit's test and its words

between : (n k : ℕ) → (leb 1 n && leb n k) ≡ true → (1 ≤ n) × (n ≤ k)
between n k h = let p = and_parts (leb 1 n) (leb n k) h in (leb-true 1 n p.0, leb-true n k p.1)

between_test : (n k : ℕ) → (1 ≤ n) × (n ≤ k) → (leb 1 n && leb n k) ≡ true
between_test n k h = and_from (leb 1 n) (leb n k) (le-leb 1 n h.0) (le-leb n k h.1)

le_z_true : (a b : ℤ) → le_z a b ≡ true → a ≤ℤ b
le_z_true a b h = grind (arith, ints)

le_z_test : (a b : ℤ) → a ≤ℤ b → le_z a b ≡ true
le_z_test a b h = grind (arith, ints)

-- the branches below k lead elsewhere
leads_none : (T : Table) (s c u k : ℕ) → leads_to T s c u k ≡ false → (a : ℕ) → a < k → successor T s c a ≡ u → ⊥
leads_none T s c u k h a l e = both_ways (leads_to T s c u k) h (leads_found T s c u a k l e)

leads_nowhere : (T : Table) (s c u k : ℕ) → ((a : ℕ) → a < k → successor T s c a ≡ u → ⊥) → leads_to T s c u k ≡ false
leads_nowhere T s c u zero h = refl
leads_nowhere T s c u (suc k) h =
    or_from (leads_to T s c u k) (eqb (successor T s c k) u) (leads_nowhere T s c u k (λ a l. h a (omega arith))) (ne_eqb (successor T s c k) u (h k (omega arith)))

pub limit : (T : Table) (e : Fault) → kept T e ≡ true → Limit T e
limit T States h = between T.states 256 h
limit T Denominator h = between T.denominator 65536 h
limit T (Choices s) h = between (T.choices s) 16 h
limit T (Reward s c) h =
    let p = and_parts (le_z (neg_ℤ (pos 1000000)) (T.reward s c)) (le_z (T.reward s c) (pos 1000000)) h in
    (le_z_true (neg_ℤ (pos 1000000)) (T.reward s c) p.0, le_z_true (T.reward s c) (pos 1000000) p.1)
limit T (Branches s c) h = between (T.branches s c) 8 h
limit T (Successor s c b) h = ltb-true (successor T s c b) T.states h
limit T (Weight s c b) h = leb-true 1 (weight T s c b) h
limit T (Repeated s c b) h = leads_none T s c (successor T s c b) b (not-true (leads_to T s c (successor T s c b) b) h)
limit T (Sum s c) h = eqb-true (sum_n (T.branches s c) (weight T s c)) T.denominator h

pub limit_test : (T : Table) (e : Fault) → Limit T e → kept T e ≡ true
limit_test T States h = between_test T.states 256 h
limit_test T Denominator h = between_test T.denominator 65536 h
limit_test T (Choices s) h = between_test (T.choices s) 16 h
limit_test T (Reward s c) h =
    and_from (le_z (neg_ℤ (pos 1000000)) (T.reward s c)) (le_z (T.reward s c) (pos 1000000))
    (le_z_test (neg_ℤ (pos 1000000)) (T.reward s c) h.0) (le_z_test (T.reward s c) (pos 1000000) h.1)
limit_test T (Branches s c) h = between_test (T.branches s c) 8 h
limit_test T (Successor s c b) h = lt-ltb (successor T s c b) T.states h
limit_test T (Weight s c b) h = le-leb 1 (weight T s c b) h
limit_test T (Repeated s c b) h =
    not_from_false (leads_to T s c (successor T s c b) b) (leads_nowhere T s c (successor T s c b) b h)
limit_test T (Sum s c) h = eq-eqb (sum_n (T.branches s c) (weight T s c)) T.denominator h

-- What is found on a list of limits

module _ (T : Table) where
  none_broken : (es : List Fault) → first_broken T es ≡ None → AllByRecursion (Limit T) es
  none_broken [] h = tt
  none_broken (e ∷ es) h =
      elim (cases_Bool (kept T e)) [
        | inl k ↦ (limit T e k, none_broken es (sym (cond-true (kept T e) (first_broken T es) (Some e) k) ∙ h))
        | inr k ↦ (let no : Some e ≡ None = sym (cond-false (kept T e) (first_broken T es) (Some e) k) ∙ h in let z : ◌≡◌ {A = ℕ} 0 1 = cc in absurd (omega arith))
      ]

  all_kept : (es : List Fault) → AllByRecursion (Limit T) es → first_broken T es ≡ None
  all_kept [] h = refl
  all_kept (e ∷ es) h = cond-true (kept T e) (first_broken T es) (Some e) (limit_test T e h.0) ∙ all_kept es h.1

  -- the first broken one, with what stands before and behind it
  pub record Split (es : List Fault) (e : Fault) : Type 0 where
    pub earlier : List Fault
    pub later : List Fault
    pub place : es ≡ earlier ++ (e ∷ later)
    pub held : AllByRecursion (Limit T) earlier
    pub broken : Limit T e → ⊥

  split : (es : List Fault) (e : Fault) → first_broken T es ≡ Some e → Split es e
  split [] e h = let z : ◌≡◌ {A = ℕ} 0 1 = cc in absurd (omega arith)
  split (d ∷ es) e h =
      elim (cases_Bool (kept T d)) [
        | inl k ↦ (
            let r = split es e (sym (cond-true (kept T d) (first_broken T es) (Some d) k) ∙ h) in
            record { earlier = d ∷ r.earlier; later = r.later; place = ap (λ (xs : List Fault). d ∷ xs) r.place; held = (limit T d k, r.held); broken = r.broken })
        | inr k ↦ (
            let q : Some d ≡ Some e = sym (cond-false (kept T d) (first_broken T es) (Some d) k) ∙ h in
            let same : d ≡ e = cc in
            record {
              earlier = [];
              later = es;
              place = ap (λ (x : Fault). x ∷ es) same;
              held = tt;
              broken = λ l. both_ways (kept T e) (sym (ap (kept T) same) ∙ k) (limit_test T e l);
            })
      ]

-- All limits of a walk, by its parts

module _ (P : Fault → Type 0) where
  all_left : (xs ys : List Fault) → AllByRecursion P (xs ++ ys) → AllByRecursion P xs
  all_left [] ys h = tt
  all_left (x ∷ xs) ys h = (h.0, all_left xs ys h.1)

  all_right : (xs ys : List Fault) → AllByRecursion P (xs ++ ys) → AllByRecursion P ys
  all_right [] ys h = h
  all_right (x ∷ xs) ys h = all_right xs ys h.1

  each_all : (f : ℕ → List Fault) (k : ℕ) → AllByRecursion P (each k f) → (i : ℕ) → i < k → AllByRecursion P (f i)
  each_all f zero h i l = absurd (omega arith)
  each_all f (suc k) h i l =
      elim (cases_eq i k) [
        | inl q ↦ subst (λ (j : ℕ). AllByRecursion P (f j)) (sym q) (all_right (each k f) (f k) h)
        | inr q ↦ each_all f k (all_left (each k f) (f k) h) i (omega arith)
      ]

  all_each : (f : ℕ → List Fault) (k : ℕ) → ((i : ℕ) → i < k → AllByRecursion P (f i)) → AllByRecursion P (each k f)
  all_each f zero h = tt
  all_each f (suc k) h = All-append P (each k f) (f k) (all_each f k (λ i l. h i (omega arith))) (h k (omega arith))

module _ (T : Table) where
  at_state : AllByRecursion (Limit T) (walk T) → (s : ℕ) → s < T.states → AllByRecursion (Limit T) (state_walk T s)
  at_state h s l = each_all (Limit T) (state_walk T) T.states h.1.1 s l

  at_choice : AllByRecursion (Limit T) (walk T) → (s c : ℕ) → s < T.states → c < T.choices s → AllByRecursion (Limit T) (choice_walk T s c)
  at_choice h s c l m = each_all (Limit T) (choice_walk T s) (T.choices s) (at_state h s l).1 c m

  at_branch : AllByRecursion (Limit T) (walk T) → (s c b : ℕ) → s < T.states → c < T.choices s → b < T.branches s c → AllByRecursion (Limit T) (branch_walk s c b)
  at_branch h s c b l m n =
      each_all (Limit T) (branch_walk s c) (T.branches s c) (all_left (Limit T) (each (T.branches s c) (branch_walk s c)) (Sum s c ∷ []) (at_choice h s c l m).1.1) b n

  lawful_from_walk : AllByRecursion (Limit T) (walk T) → Lawful T
  lawful_from_walk h = record {
    states = h.0;
    denominator = h.1.0;
    choices = λ s l. (at_state h s l).0;
    rewards = λ s c l m. (at_choice h s c l m).0;
    branches = λ s c l m. (at_choice h s c l m).1.0;
    successors = λ s c b l m n. (at_branch h s c b l m n).0;
    weights = λ s c b l m n. (at_branch h s c b l m n).1.0;
    distinct = λ s c b l m n. (at_branch h s c b l m n).1.1.0;
    complete = λ s c l m. (all_right (Limit T) (each (T.branches s c) (branch_walk s c)) (Sum s c ∷ []) (at_choice h s c l m).1.1).0;
  }

  walk_from_lawful : Lawful T → AllByRecursion (Limit T) (walk T)
  walk_from_lawful w = (
    w.states,
    (
      w.denominator,
      all_each (Limit T) (state_walk T) T.states (λ s l. (
        w.choices s l,
        all_each (Limit T) (choice_walk T s) (T.choices s) (λ c m. (
          w.rewards s c l m,
          (
            w.branches s c l m,
            All-append (Limit T) (each (T.branches s c) (branch_walk s c)) (Sum s c ∷ [])
                (all_each (Limit T) (branch_walk s c) (T.branches s c) (λ b n. (w.successors s c b l m n, (w.weights s c b l m n, (w.distinct s c b l m n, tt)))))
                (w.complete s c l m, tt),
          ),
        )),
      )),
    ),
  )

  pub walk_law : WalkLaw T
  walk_law = record {
    lawful = ((λ h. lawful_from_walk (none_broken T (walk T) h)), (λ w. all_kept T (walk T) (walk_from_lawful w)));
    first = λ e h. (let r = split T (walk T) e h in record { earlier = r.earlier; later = r.later; place = r.place; held = r.held; broken = r.broken });
  }
