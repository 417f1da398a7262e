-- Bounds of weighted sums, so that none overflows.
use Rattle.std.proofs.Common.{◌≡◌, ℕ, zero, suc, ◌+◌, ◌-◌, ◌*◌, ◌^◌, ◌<◌, ◌≤◌, ℤ, pos, negsuc, ◌+ℤ◌, ◌*ℤ◌, neg_ℤ, nat_abs, ◌≤ℤ◌, List, length, map, get_or, take, drop, ◌++◌, fold, [], ◌∷◌, sym, refl, ap, ◌∙◌, ap₂, subst, map-id, arith}
use Rattle.std.proofs.lemmas.List.{get_or-map, length-map, length-append, get_or_append_left, get_or_default, take-append-drop}
use Rattle.std.proofs.Common.{Option}
use Rattle.std.proofs.lemmas.Iterator.{YieldsList, items_from_drains}
use Rattle.std.proofs.lemmas.Iterator.Consumers.{YieldsList-so_far}
use Rattle.std.specs.Iterator.Runs.{EachRunFrom, YieldsRun}
use Rattle.std.specs.Bool.{⊤}
use Rattle.std.specs.Iterator.{Yields, Drains}
use Rattle.table.specs.Sums.{sum_n}
use Rattle.horizon.specs.Sums.{sum_z, weighted_z}
use Rattle.book.specs.Bounded.{Bounded, AllBounded}
use Rattle.book.specs.RunSums.{place_at, weight_at}
use Rattle.horizon.specs.Ring.{lin, mono, over_neg}

-- n times a number that is at most B either way
pub scaled : (n : ℕ) (v : ℤ) (B : ℕ) → neg_ℤ (pos B) ≤ℤ v → v ≤ℤ pos B → (neg_ℤ (pos (n * B)) ≤ℤ (pos n *ℤ v)) × ((pos n *ℤ v) ≤ℤ pos (n * B))
scaled n v B low high =
    let a = mono n (neg_ℤ (pos B)) v low in
    let b = mono n v (pos B) high in
    let c = over_neg n (pos B) in
    (omega (arith, lin), omega (arith, lin))

-- a part of a sum is at most the sum
pub part_more : (i j : ℕ) (f : ℕ → ℕ) → sum_n i f ≤ sum_n (i + j) f
part_more i zero f = let e : sum_n (i + 0) f ≡ sum_n i f = ap (λ (k : ℕ). sum_n k f) (omega arith) in omega arith
part_more i (suc j) f =
    let ih = part_more i j f in
    let q : i + suc j ≡ suc (i + j) = omega arith in
    let e : sum_n (i + suc j) f ≡ sum_n (i + j) f + f (i + j) = ap (λ (k : ℕ). sum_n k f) q in
    omega arith

pub part_of : (i k : ℕ) (f : ℕ → ℕ) → i ≤ k → sum_n i f ≤ sum_n k f
part_of i k f h =
    let m = part_more i (k - i) f in
    let q : i + (k - i) ≡ k = omega arith in
    let e : sum_n (i + (k - i)) f ≡ sum_n k f = ap (λ (n : ℕ). sum_n n f) q in
    omega arith

-- equal terms give equal sums
pub sum_n_cong : (k : ℕ) (f g : ℕ → ℕ) → ((b : ℕ) → b < k → f b ≡ g b) → sum_n k f ≡ sum_n k g
sum_n_cong zero f g h = refl
sum_n_cong (suc k) f g h = ap₂ ◌+◌ (sum_n_cong k f g (λ b l. h b (omega arith))) (h k (omega arith))

pub weighted_z_same : (k : ℕ) (v w : ℕ → ℕ) (f g : ℕ → ℤ) → ((b : ℕ) → b < k → v b ≡ w b) → ((b : ℕ) → b < k → f b ≡ g b) → weighted_z k v f ≡ weighted_z k w g
weighted_z_same zero v w f g p q = refl
weighted_z_same (suc k) v w f g p q =
    ap₂ ◌+ℤ◌ (weighted_z_same k v w f g (λ b l. p b (omega arith)) (λ b l. q b (omega arith)))
    (ap₂ (λ (n : ℕ) (z : ℤ). pos n *ℤ z) (p k (omega arith)) (q k (omega arith)))

-- an integer that is not negative is its own size
pub natural_is : (z : ℤ) → pos 0 ≤ℤ z → z ≡ pos (nat_abs z)
natural_is (pos n) h = refl
natural_is (negsuc n) h = let z : ⊥ = omega (arith, lin) in absurd z

-- a fold that adds the elements of a list, from the number a on
sum_z_front : (k : ℕ) (f : ℕ → ℤ) → sum_z (suc k) f ≡ f 0 +ℤ sum_z k (λ i. f (suc i))
sum_z_front zero f = omega (arith, lin)
sum_z_front (suc k) f = let ih = sum_z_front k f in omega (arith, lin)

added : (a : ℤ) (xs : List ℤ) (f : ℕ → ℤ) → ((i : ℕ) → i < length xs → get_or xs i (pos 0) ≡ f i) → fold ◌+ℤ◌ a xs ≡ a +ℤ sum_z (length xs) f
added a [] f h = omega (arith, lin)
added a (x ∷ xs) f h =
    let ih = added (a +ℤ x) xs (λ i. f (suc i)) (λ i l. h (suc i) (omega arith)) in
    let e : x ≡ f 0 = h 0 (omega arith) in
    let m = sum_z_front (length xs) f in
    omega (arith, lin)

-- the sums along a run of branches
module _ (run : List (ℕ × ℕ)) (values : List ℤ) where
  abbrev product : ℕ × ℕ → ℤ
  product x = pos x.1 *ℤ get_or values x.0 (pos 0)

  abbrev pub terms : List ℤ
  terms = map product run

  -- the sum over the first k branches
  abbrev pub part_sum : ℕ → ℤ
  part_sum k = weighted_z k (weight_at run) (λ b. get_or values (place_at run b) (pos 0))

  pub terms_few : (xs more : List ℤ) → terms ≡ xs ++ more → length xs ≤ length run
  terms_few xs more e =
      let size : length run ≡ length xs + length more = sym (length-map run product) ∙ ap (λ (l : List ℤ). length l) e ∙ length-append xs more in
      omega arith

  -- the first elements add up to the sum over as many branches
  pub terms_sum : (xs more : List ℤ) → terms ≡ xs ++ more → fold ◌+ℤ◌ (pos 0) xs ≡ part_sum (length xs)
  terms_sum xs more e =
      let size : length run ≡ length xs + length more = sym (length-map run product) ∙ ap (λ (l : List ℤ). length l) e ∙ length-append xs more in
      let a = added (pos 0) xs (λ b. product (get_or {A = ℕ × ℕ} run b (0, 0)))
      (λ i l. sym (get_or_append_left xs more (pos 0) i l) ∙ ap (λ (l : List ℤ). get_or l i (pos 0)) (sym e)
      ∙ get_or-map product run i (0, 0) (pos 0) (omega arith)) in
      omega (arith, lin)

  module _ (inside : (b : ℕ) → b < length run → place_at run b < length values) (light : sum_n (length run) (weight_at run) ≤ 2 ^ 16) (small : AllBounded values) where
    part_within : (k : ℕ) → k ≤ length run → Bounded (sum_n k (weight_at run) * 2 ^ 46) (part_sum k)
    part_within zero l = (omega (arith, lin), omega (arith, lin))
    part_within (suc k) l =
        let ih = part_within k (omega arith) in
        let v = small (place_at run k) (inside k (omega arith)) in
        let s = scaled (weight_at run k) (get_or values (place_at run k) (pos 0)) (2 ^ 46) v.0 v.1 in
        (omega (arith, lin), omega (arith, lin))

    -- none of them is large
    pub part_small : (k : ℕ) → k ≤ length run → Bounded (2 ^ 62) (part_sum k)
    part_small k l =
        let r = part_within k l in
        let p = part_of k (length run) (weight_at run) l in
        (omega (arith, lin), omega (arith, lin))

    -- each branch of the run has a place, a weight and a value
    pub branch_fits : (x : ℕ × ℕ) (k : ℕ) → k < length run → x ≡ get_or run k x
        → (x.0 < length values) × (x.1 ≤ 2 ^ 16) × Bounded (2 ^ 46) (get_or values x.0 (pos 0))
    branch_fits x k h e =
        let q : x ≡ get_or {A = ℕ × ℕ} run k (0, 0) = e ∙ get_or_default run k x (0, 0) h in
        let p : x.0 ≡ place_at run k = ap (λ (y : ℕ × ℕ). y.0) q in
        let w : x.1 ≡ weight_at run k = ap (λ (y : ℕ × ℕ). y.1) q in
        let i : x.0 < length values = (let a = inside k h in omega arith) in
        let m : sum_n (suc k) (weight_at run) ≤ sum_n (length run) (weight_at run) = part_of (suc k) (length run) (weight_at run) (omega arith) in
        (i, omega arith, small x.0 i)

-- what holds of the first elements of a list, however many, holds along each run of an iterator that gives the list
pub along : {S : Type 0} {steps : S → Option ℤ → S → Type 0} {s : S} (all : List ℤ) (P : List ℤ → Type 0) → YieldsList steps (λ y. y) s all
    → ((xs more : List ℤ) → all ≡ xs ++ more → P xs) → EachRunFrom steps s (λ p. P p.items)
unfolding YieldsRun
along {steps = steps} all P e h = λ p _ at.
    let run = subst (λ u. Yields steps u p.items p.gave.0.0) at p.gave.0.1 in
    let m : p.items ≡ take (length p.items) all = sym (map-id p.items) ∙ YieldsList-so_far e p.items p.gave.0.0 run in
    h p.items (drop (length p.items) all) (sym (take-append-drop (length p.items) all) ∙ ap (λ (l : List ℤ). l ++ drop (length p.items) all) (sym m))

pub total_is : {S : Type 0} {steps : S → Option ℤ → S → Type 0} (all : List ℤ) (s : S) (r : ℤ) → ((xs : List ℤ) × (⊤ → Drains steps s xs) × (r ≡ fold ◌+ℤ◌ (pos 0) xs))
    → YieldsList steps (λ y. y) s all → r ≡ fold ◌+ℤ◌ (pos 0) all
total_is {steps = steps} all s r h e = h.2 ∙ ap (λ (xs : List ℤ). fold ◌+ℤ◌ (pos 0) xs) (sym (map-id h.0) ∙ items_from_drains {steps = steps} {s = s} h.0 (let d = h.1 tt in (d.1.0, d.1.1, λ _. (d.0, d.1.2))) e)
