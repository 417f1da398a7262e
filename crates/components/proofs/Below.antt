-- Tests on the numbers below a count.
use Rattle.std.proofs.Common.{◌≡◌, ℕ, zero, suc, ◌+◌, ◌<◌, ◌≤◌, Bool, true, false, cond, List, [], map, length, get_or, sym, refl, ap, ◌∙◌, ⊎_elim, arith}
use Rattle.std.specs.List.{range_with_len}
use Rattle.std.proofs.lemmas.List.{get_or_past}
use Rattle.std.proofs.lemmas.List.FromFn.{get_or-map-range_with_len, length-map-range_with_len}
use Rattle.std.proofs.lemmas.Bool.{cases_Bool, cases_eq, cases_lt, and_parts, and_from, and_cases, or_cases, or_left, or_right, both_ways, cond_both}
use Rattle.table.specs.Sums.{sum_n}
use Rattle.components.specs.Below.{every, any, count, first, grid}

pub every_at : (n : ℕ) (p : ℕ → Bool) → every n p ≡ true → (i : ℕ) → i < n → p i ≡ true
every_at zero p e i h = absurd (let z : i < 0 = h in omega arith)
every_at (suc n) p e i h =
    ⊎_elim
    (λ (q : i ≡ n). rw q (and_parts (every n p) (p n) e).1)
    (λ (q : i ≡ n → ⊥). every_at n p (and_parts (every n p) (p n) e).0 i (omega arith))
    (cases_eq i n)

pub every_from : (n : ℕ) (p : ℕ → Bool) → ((i : ℕ) → i < n → p i ≡ true) → every n p ≡ true
every_from zero p h = refl
every_from (suc n) p h = and_from (every n p) (p n) (every_from n p (λ i k. h i (omega arith))) (h n (omega arith))

pub every_fails : (n : ℕ) (p : ℕ → Bool) → every n p ≡ false → (i : ℕ) × (i < n) × (p i ≡ false)
every_fails zero p e = absurd (both_ways true e refl)
every_fails (suc n) p e =
    ⊎_elim
    (λ (k : every n p ≡ false). let r = every_fails n p k in (r.0, omega arith, r.2))
    (λ (k : p n ≡ false). (n, omega arith, k))
    (and_cases (every n p) (p n) e)

pub any_some : (n : ℕ) (p : ℕ → Bool) → any n p ≡ true → (i : ℕ) × (i < n) × (p i ≡ true)
any_some zero p e = absurd (both_ways false refl e)
any_some (suc n) p e =
    ⊎_elim
    (λ (k : any n p ≡ true). let r = any_some n p k in (r.0, omega arith, r.2))
    (λ (k : p n ≡ true). (n, omega arith, k))
    (or_cases (any n p) (p n) e)

pub any_from : (n : ℕ) (p : ℕ → Bool) (i : ℕ) → i < n → p i ≡ true → any n p ≡ true
any_from zero p i h e = absurd (let z : i < 0 = h in omega arith)
any_from (suc n) p i h e =
    ⊎_elim
    (λ (q : i ≡ n). or_right (any n p) (p n) (rw q at e))
    (λ (q : i ≡ n → ⊥). or_left (any n p) (p n) (any_from n p i (omega arith) e))
    (cases_eq i n)

pub any_none : (n : ℕ) (p : ℕ → Bool) → any n p ≡ false → (i : ℕ) → i < n → p i ≡ false
any_none n p e i h =
    ⊎_elim
    (λ (k : p i ≡ true). absurd (both_ways (any n p) e (any_from n p i h k)))
    (λ (k : p i ≡ false). k)
    (cases_Bool (p i))

-- The first number that passes

pub first_le : (n : ℕ) (p : ℕ → Bool) (i : ℕ) → p i ≡ true → first n p ≤ i
unfolding first
first_le zero p i e = omega arith
first_le (suc n) p zero e = rw e (omega arith)
first_le (suc n) p (suc i) e =
    cond_both (p 0) 0 (suc (first n (λ j. p (suc j)))) (λ x. x ≤ suc i) (λ _. omega arith)
    (λ _. let u = first_le n (λ j. p (suc j)) i e in omega arith)

pub first_at : (n : ℕ) (p : ℕ → Bool) (i : ℕ) → i < n → p i ≡ true → p (first n p) ≡ true
unfolding first
first_at zero p i h e = absurd (let z : i < 0 = h in omega arith)
first_at (suc n) p zero h e = rw e e
first_at (suc n) p (suc i) h e =
    cond_both (p 0) 0 (suc (first n (λ j. p (suc j)))) (λ x. p x ≡ true) (λ k. k)
    (λ _. first_at n (λ j. p (suc j)) i (omega arith) e)

-- no number before the first one passes
pub first_none : (n : ℕ) (p : ℕ → Bool) (i : ℕ) → i < first n p → p i ≡ false
first_none n p i h =
    ⊎_elim
    (λ (e : p i ≡ true). let l = first_le n p i e in absurd (omega arith))
    (λ (e : p i ≡ false). e)
    (cases_Bool (p i))

-- Sums and counts

pub sum_le : (n : ℕ) (f g : ℕ → ℕ) → ((i : ℕ) → i < n → f i ≤ g i) → sum_n n f ≤ sum_n n g
sum_le zero f g h = omega arith
sum_le (suc n) f g h =
    let u = sum_le n f g (λ i k. h i (omega arith)) in
    let v = h n (omega arith) in
    omega arith

pub sum_lt : (n : ℕ) (f g : ℕ → ℕ) → ((i : ℕ) → i < n → f i ≤ g i) → (j : ℕ) → j < n → f j < g j → sum_n n f < sum_n n g
sum_lt zero f g h j l s = absurd (let z : j < 0 = l in omega arith)
sum_lt (suc n) f g h j l s =
    ⊎_elim
    (λ (q : j ≡ n).
    let u = sum_le n f g (λ i k. h i (omega arith)) in
    let v : f n < g n = rw q at s in
    omega arith)
    (λ (q : j ≡ n → ⊥).
    let u = sum_lt n f g (λ i k. h i (omega arith)) j (omega arith) s in
    let v = h n (omega arith) in
    omega arith)
    (cases_eq j n)

bit_le : (a b : Bool) → (a ≡ true → b ≡ true) → cond a 1 0 ≤ cond b 1 0
bit_le true true h = omega arith
bit_le true false h = absurd (both_ways false refl (h refl))
bit_le false true h = omega arith
bit_le false false h = omega arith

bit_lt : (a b : Bool) → a ≡ false → b ≡ true → cond a 1 0 < cond b 1 0
bit_lt a b e f = rw (e, f) (omega arith)

pub count_le : (n : ℕ) (p q : ℕ → Bool) → ((i : ℕ) → i < n → p i ≡ true → q i ≡ true) → count n p ≤ count n q
count_le n p q h = sum_le n (λ i. cond (p i) 1 0) (λ i. cond (q i) 1 0) (λ i l. bit_le (p i) (q i) (h i l))

pub count_lt : (n : ℕ) (p q : ℕ → Bool) → ((i : ℕ) → i < n → p i ≡ true → q i ≡ true)
    → (j : ℕ) → j < n → p j ≡ false → q j ≡ true → count n p < count n q
count_lt n p q h j l e f =
    sum_lt n (λ i. cond (p i) 1 0) (λ i. cond (q i) 1 0) (λ i k. bit_le (p i) (q i) (h i k)) j l (bit_lt (p j) (q j) e f)

pub count_most : (n : ℕ) (p : ℕ → Bool) → count n p ≤ n
count_most zero p = omega arith
count_most (suc n) p =
    let u = count_most n p in
    let v : cond (p n) 1 0 ≤ 1 = cond_both (p n) 1 0 (λ x. x ≤ 1) (λ _. omega arith) (λ _. omega arith) in
    omega arith

-- A count up to a number that passes names that number

pub count_step : (n : ℕ) (p : ℕ → Bool) → p n ≡ true → count (suc n) p ≡ suc (count n p)
count_step n p e = rw e (omega arith)

pub count_up : (m n : ℕ) (p : ℕ → Bool) → m ≤ n → count m p ≤ count n p
count_up m zero p h = let z : m ≡ 0 = omega arith in rw z (omega arith)
count_up m (suc n) p h =
    ⊎_elim
    (λ (q : m ≡ suc n). rw q (omega arith))
    (λ (q : m ≡ suc n → ⊥). let u = count_up m n p (omega arith) in omega arith)
    (cases_eq m (suc n))

pub count_past : (m n : ℕ) (p : ℕ → Bool) → p m ≡ true → m < n → count m p < count n p
count_past m n p e h =
    let u = count_up (suc m) n p h in
    let v = count_step m p e in
    omega arith

-- numbers that pass rise with their counts
pub count_order : (m n : ℕ) (p : ℕ → Bool) → p n ≡ true → count m p < count n p → m < n
count_order m n p e h =
    ⊎_elim (λ (l : m < n). l) (λ (l : n ≤ m). let u = count_up n m p l in absurd (omega arith)) (cases_lt m n)

pub count_same : (m n : ℕ) (p : ℕ → Bool) → p m ≡ true → p n ≡ true → count m p ≡ count n p → m ≡ n
count_same m n p e f q =
    ⊎_elim
    (λ (l : m < n). let u = count_past m n p e l in absurd (omega arith))
    (λ (l : n ≤ m).
    ⊎_elim
    (λ (g : n < m). let u = count_past n m p f g in absurd (omega arith))
    (λ (g : m ≤ n). omega arith)
    (cases_lt n m))
    (cases_lt m n)

-- each number below a count is the count up to a number that passes
pub count_onto : (n i : ℕ) (p : ℕ → Bool) → i < count n p → (m : ℕ) × (m < n) × (p m ≡ true) × (count m p ≡ i)
count_onto zero i p h = absurd (let z : i < 0 = h in omega arith)
count_onto (suc n) i p h =
    ⊎_elim
    (λ (l : i < count n p). let r = count_onto n i p l in (r.0, omega arith, r.2, r.3))
    (λ (l : count n p ≤ i).
    ⊎_elim
    (λ (e : p n ≡ true). let u = count_step n p e in (n, omega arith, e, omega arith))
    (λ (e : p n ≡ false). let h' : i < count n p + 0 = rw e at h in absurd (omega arith))
    (cases_Bool (p n)))
    (cases_lt i (count n p))

-- What a grid holds

module _ (n : ℕ) (m : ℕ → ℕ) (p : ℕ → ℕ → Bool) where
  row : ℕ → List Bool
  row i = map (p i) (range_with_len 0 (m i))

  pub grid_at : (i j : ℕ) → i < n → j < m i → grid n m p i j ≡ p i j
  unfolding grid row
  grid_at i j h k =
      ap (λ (xs : List Bool). get_or xs j false) (get_or-map-range_with_len row 0 n i i [] h (omega arith))
      ∙ get_or-map-range_with_len (p i) 0 (m i) j j false k (omega arith)

  pub grid_past : (i j : ℕ) → n ≤ i → grid n m p i j ≡ false
  unfolding grid row
  grid_past i j h =
      let l : length (map row (range_with_len 0 n)) ≤ i = rw (length-map-range_with_len row 0 n) h in
      ap (λ (xs : List Bool). get_or xs j false) (get_or_past (map row (range_with_len 0 n)) i [] l)

  pub grid_out : (i j : ℕ) → i < n → m i ≤ j → grid n m p i j ≡ false
  unfolding grid row
  grid_out i j h k =
      let l : length (map (p i) (range_with_len 0 (m i))) ≤ j = rw (length-map-range_with_len (p i) 0 (m i)) k in
      ap (λ (xs : List Bool). get_or xs j false) (get_or-map-range_with_len row 0 n i i [] h (omega arith))
      ∙ get_or_past (map (p i) (range_with_len 0 (m i))) j false l

  pub grid_true : (i j : ℕ) → grid n m p i j ≡ true → (i < n) × (j < m i) × (p i j ≡ true)
  grid_true i j e =
      ⊎_elim
      (λ (h : i < n).
      ⊎_elim
      (λ (k : j < m i). (h, k, sym (grid_at i j h k) ∙ e))
      (λ (k : m i ≤ j). absurd (both_ways (grid n m p i j) (grid_out i j h k) e))
      (cases_lt j (m i)))
      (λ (h : n ≤ i). absurd (both_ways (grid n m p i j) (grid_past i j h) e))
      (cases_lt i n)

  pub grid_from : (i j : ℕ) → i < n → j < m i → p i j ≡ true → grid n m p i j ≡ true
  grid_from i j h k e = grid_at i j h k ∙ e
