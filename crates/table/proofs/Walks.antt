-- Lemmas for checks along the walk: what a check of some limits in turn answers, from what it answers of parts of them.
use Rattle.std.proofs.Common.{◌≡◌, ℕ, zero, suc, ◌+◌, ◌<◌, Bool, true, false, cond, ◌||◌, eqb, List, [], ◌∷◌, ◌++◌, Some, Ok, Err, Result, sym, refl, ap, ◌∙◌, inl, inr, add-one, arith}
use Rattle.std.proofs.lemmas.Bool.{cases_eq, cond-true, cond-false, eq-eqb, or_right}
use Rattle.std.proofs.lemmas.List.Folds.{list_any-append}
use Rattle.std.proofs.lemmas.List.Sums.{sum_by-append}
use Rattle.std.specs.List.{list_any, range_with_len, sum_by}
use Rattle.table.specs.Sums.{sum_n}
use Rattle.table.specs.Table.{Table, successor}
use Rattle.table.specs.Faults.{kept, leads_to}
use Rattle.table.specs.Walk.{each, branch_walk, head_walk, choice_walk, first_broken}
use Rattle.table.specs.Law.{verdict}
use Rattle.table.specs.declared.fault.Fault.{Fault}
use Rattle.table.specs.declared.fault.Fault.TheVariants.{Sum}

-- what a check of these limits in turn answers
abbrev pub checked : Table → List Fault → Result (Unit {0}) Fault
checked T es = verdict (first_broken T es)

module _ (T : Table) where
  -- a limit that is kept, and one that is broken
  pub checked_past : (e : Fault) (es : List Fault) → kept T e ≡ true → checked T (e ∷ es) ≡ checked T es
  checked_past e es h = ap verdict (cond-true (kept T e) (first_broken T es) (Some e) h)

  pub checked_at : (e : Fault) (es : List Fault) → kept T e ≡ false → checked T (e ∷ es) ≡ Err e
  checked_at e es h = ap verdict (cond-false (kept T e) (first_broken T es) (Some e) h)

  -- nothing is broken in xs: what is broken stands in ys
  pub ok_then : (xs ys : List Fault) → checked T xs ≡ Ok tt → checked T (xs ++ ys) ≡ checked T ys
  ok_then [] ys h = refl
  ok_then (e ∷ es) ys h =
      (elim (kept T e) as (λ b. verdict (cond b (first_broken T es) (Some e)) ≡ Ok tt → verdict (cond b (first_broken T (es ++ ys)) (Some e)) ≡ checked T ys)
      [ true ↦ ok_then es ys | false ↦ λ k. cc ]) h

  -- something is broken in xs: it stays the first
  pub err_then : (xs ys : List Fault) (e : Fault) → checked T xs ≡ Err e → checked T (xs ++ ys) ≡ Err e
  err_then [] ys e h = cc
  err_then (d ∷ es) ys e h =
      (elim (kept T d) as (λ b. verdict (cond b (first_broken T es) (Some d)) ≡ Err e → verdict (cond b (first_broken T (es ++ ys)) (Some d)) ≡ Err e)
      [ true ↦ err_then es ys e | false ↦ λ k. k ]) h

  module _ (f : ℕ → List Fault) where
    -- one more turn with nothing broken
    pub ok_more : (i : ℕ) → checked T (each i f) ≡ Ok tt → checked T (f i) ≡ Ok tt → checked T (each (i + 1) f) ≡ Ok tt
    ok_more i h k = rw add-one (ok_then (each i f) (f i) h ∙ k)

    -- the first turn with something broken decides
    pub err_at : (i k : ℕ) (e : Fault) → i < k → checked T (each i f) ≡ Ok tt → checked T (f i) ≡ Err e → checked T (each k f) ≡ Err e
    err_at i zero e l h m = absurd (omega arith)
    err_at i (suc k) e l h m =
        elim (cases_eq i k) [
          | inl q ↦ ap (λ (n : ℕ). checked T (each (suc n) f)) (sym q) ∙ ok_then (each i f) (f i) h ∙ m
          | inr q ↦ err_then (each k f) (f k) e (err_at i k e (omega arith) h m)
        ]

-- one more number of a range is its last
range_more : (a n : ℕ) → range_with_len a (suc n) ≡ range_with_len a n ++ ((a + n) ∷ [])
range_more a zero = let q : a ≡ a + 0 = omega arith in ap (λ (k : ℕ). k ∷ []) q
range_more a (suc n) =
    let q : a + 1 + n ≡ a + suc n = omega arith in
    ap (λ (ks : List ℕ). a ∷ ks) (range_more (a + 1) n ∙ ap (λ (k : ℕ). range_with_len (a + 1) n ++ (k ∷ [])) q)

-- a choice past its head and its branches
pub choice_past : (T : Table) (s c : ℕ) → checked T (head_walk s c) ≡ Ok tt → checked T (each (T.branches s c) (branch_walk s c)) ≡ Ok tt
    → checked T (choice_walk T s c) ≡ checked T (Sum s c ∷ [])
choice_past T s c h k =
    let branches = each (T.branches s c) (branch_walk s c) in
    ok_then T (head_walk s c) (branches ++ (Sum s c ∷ [])) h ∙ ok_then T branches (Sum s c ∷ []) k

-- the sum over a range
pub sum_range : (f : ℕ → ℕ) (n : ℕ) → sum_by f (range_with_len 0 n) ≡ sum_n n f
sum_range f zero = refl
sum_range f (suc n) =
    let last : sum_by f ((0 + n) ∷ []) ≡ f n = grind arith in
    ap (sum_by f) (range_more 0 n)
    ∙ sum_by-append f (range_with_len 0 n) ((0 + n) ∷ [])
    ∙ ap (λ (k : ℕ). k + sum_by f ((0 + n) ∷ [])) (sum_range f n)
    ∙ ap (λ (k : ℕ). sum_n n f + k) last

-- a test of each branch below n in turn finds one that leads to u
pub any_leads : (T : Table) (s c u n : ℕ) → list_any (λ b. eqb (successor T s c b) u) (range_with_len 0 n) ≡ leads_to T s c u n
any_leads T s c u zero = refl
any_leads T s c u (suc n) =
    let p : ℕ → Bool = λ b. eqb (successor T s c b) u in
    let last : (p (0 + n) || false) ≡ p n = grind arith in
    ap (list_any p) (range_more 0 n)
    ∙ list_any-append p (range_with_len 0 n) ((0 + n) ∷ [])
    ∙ ap (λ (b : Bool). b || (p (0 + n) || false)) (any_leads T s c u n)
    ∙ ap (λ (b : Bool). leads_to T s c u n || b) last

-- a branch that leads to u is found among all that follow it
pub leads_found : (T : Table) (s c u k n : ℕ) → k < n → successor T s c k ≡ u → leads_to T s c u n ≡ true
leads_found T s c u k zero l e = absurd (omega arith)
leads_found T s c u k (suc n) l e =
    elim (cases_eq k n) [
      | inl q ↦ or_right (leads_to T s c u n) (eqb (successor T s c n) u) (eq-eqb (successor T s c n) u (ap (successor T s c) (sym q) ∙ e))
      | inr q ↦ ap (λ (b : Bool). b || eqb (successor T s c n) u) (leads_found T s c u k n (omega arith) e)
    ]
