-- What chains over the numbers below a count give.
use Rattle.std.proofs.Common.{◌≡◌, ℕ, zero, suc, ◌+◌, ◌*◌, ◌<◌, ◌≤◌, Bool, true, false, ◌&&◌, ◌||◌, List, [], ◌∷◌, ◌++◌, length, get_or, take, unwrap_or, Some, None, Option, MatchOption, sym, refl, ap, ◌∙◌, ap₂, arith}
use Rattle.std.specs.List.{range_with_len, list_any, list_all, sum_by, AllWithin, HoldsAt}
use Rattle.std.proofs.lemmas.List.Folds.{list_any-append, list_all_more}
use Rattle.std.proofs.Math.Bool.{or-false}
use Rattle.std.proofs.Math.Seq.{take-length}
use Rattle.std.proofs.lemmas.List.FromFn.{length-range_with_len, get_or-range_with_len}
use Rattle.table.specs.Sums.{sum_n}
use Rattle.table.specs.Table.{Table}
use Rattle.table.specs.Limits.{Lawful}
use Rattle.table.proofs.Walks.{sum_range}
use Rattle.components.specs.Below.{any, every, first}
use Rattle.components.proofs.Labels.{first_is}

-- one more number
counted_more : (a n : ℕ) → range_with_len a (suc n) ≡ range_with_len a n ++ ((a + n) ∷ [])
counted_more a zero = let e : a ≡ a + 0 = omega arith in ap (λ (x : ℕ). x ∷ []) e
counted_more a (suc n) =
    let e : (a + 1) + n ≡ a + suc n = omega arith in
    ap (λ (xs : List ℕ). a ∷ xs) (counted_more (a + 1) n ∙ ap (λ (x : ℕ). range_with_len (a + 1) n ++ (x ∷ [])) e)

pub any_counted : (n : ℕ) (p : ℕ → Bool) → list_any p (range_with_len 0 n) ≡ any n p
any_counted zero p = refl
any_counted (suc n) p =
    let e : 0 + n ≡ n = omega arith in
    ap (list_any p) (counted_more 0 n) ∙ list_any-append p (range_with_len 0 n) ((0 + n) ∷ [])
    ∙ ap₂ (λ (x y : Bool). x || y) (any_counted n p) (or-false (p (0 + n)) ∙ ap p e)

-- a test of the first n elements of a list, place by place
every_below : {X : Type 0} (test : X → Bool) (xs : List X) (d : X) (n : ℕ) → n ≤ length xs → list_all test (take n xs) ≡ every n (λ b. test (get_or xs b d))
every_below test xs d zero h = refl
every_below test xs d (suc n) h =
    let e : n + 1 ≡ suc n = omega arith in
    ap (λ (k : ℕ). list_all test (take k xs)) (sym e)
    ∙ list_all_more test xs n d (omega arith)
    ∙ ap (λ (x : Bool). x && test (get_or xs n d)) (every_below test xs d n (omega arith))

pub every_listed : {X : Type 0} (test : X → Bool) (xs : List X) (d : X) (n : ℕ) → n ≡ length xs → list_all test xs ≡ every n (λ b. test (get_or xs b d))
every_listed test xs d n e =
    ap (list_all test) (sym (ap (λ (k : ℕ). take k xs) e ∙ take-length xs)) ∙ every_below test xs d n (omega arith)

pub any_ext : (n : ℕ) (p q : ℕ → Bool) → ((i : ℕ) → i < n → p i ≡ q i) → any n p ≡ any n q
any_ext zero p q h = refl
any_ext (suc n) p q h = ap₂ (λ (x y : Bool). x || y) (any_ext n p q (λ i l. h i (omega arith))) (h n (omega arith))

pub every_ext : (n : ℕ) (p q : ℕ → Bool) → ((k : ℕ) → k < n → p k ≡ q k) → every n p ≡ every n q
every_ext zero p q e = refl
every_ext (suc n) p q e = ap₂ (λ (x y : Bool). x && y) (every_ext n p q (λ k l. e k (omega arith))) (e n (omega arith))

-- a table has at most 16 choices to a state
few_choices : (T : Table) → Lawful T → (n : ℕ) → n ≤ T.states → sum_n n T.choices ≤ 16 * n
few_choices T law zero h = omega arith
few_choices T law (suc n) h =
    let l = few_choices T law n (omega arith) in
    let few = (law.choices n (omega arith)).1 in
    omega arith

pub few_counted : (T : Table) → Lawful T → (n : ℕ) → n ≡ T.states → sum_by T.choices (range_with_len 0 n) < 18446744073709551616
few_counted T law n e =
    let s = sum_range T.choices n in
    let l = few_choices T law n (omega arith) in
    let most = law.states.1 in
    omega arith

-- the first of the numbers below s that passes, or s, which does
pub lowest_found : (n s : ℕ) (p : ℕ → Bool) (r : Option ℕ) → s < n → p s ≡ true
    → MatchOption r (AllWithin (λ x. p x ≡ false) (range_with_len 0 s) 0 (length (range_with_len 0 s)))
    (λ x. (p x ≡ true) × (i : ℕ) × (i < length (range_with_len 0 s)) × HoldsAt (λ y. y ≡ x) (range_with_len 0 s) i
    × AllWithin (λ y. p y ≡ false) (range_with_len 0 s) 0 i)
    → unwrap_or r s ≡ first n p
lowest_found n s p r h e w = at r w
  where
    long : length (range_with_len 0 s) ≡ s
    long = length-range_with_len 0 s

    here : (i : ℕ) → i < s → get_or (range_with_len 0 s) i 0 ≡ i
    here i l = let z : 0 + i ≡ i = omega arith in get_or-range_with_len 0 s i 0 l ∙ z

    before : (k : ℕ) → k ≤ s → AllWithin (λ x. p x ≡ false) (range_with_len 0 s) 0 k → (j : ℕ) → j < k → p j ≡ false
    before k l all j m = ap p (sym (here j (omega arith))) ∙ all j 0 (omega arith) m

    at : (r : Option ℕ)
        → MatchOption r (AllWithin (λ x. p x ≡ false) (range_with_len 0 s) 0 (length (range_with_len 0 s)))
        (λ x. (p x ≡ true) × (i : ℕ) × (i < length (range_with_len 0 s)) × HoldsAt (λ y. y ≡ x) (range_with_len 0 s) i
        × AllWithin (λ y. p y ≡ false) (range_with_len 0 s) 0 i)
        → unwrap_or r s ≡ first n p
    at None w = sym (first_is n p s h e (λ j l. before (length (range_with_len 0 s)) (omega (arith, long)) w j (omega (arith, long))))
    at (Some x) w =
        let i : ℕ = w.1 in
        let l : i < s = omega (arith, long, w.2) in
        let q : i ≡ x = sym (here i l) ∙ w.3 0 in
        sym (first_is n p x (omega arith) w.0 (λ j m. before i (omega arith) w.4 j (omega arith)))
