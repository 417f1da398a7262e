-- The steps of listing the states node by node.
use Rattle.std.proofs.Common.{◌≡◌, ℕ, zero, suc, ◌+◌, ◌-◌, ◌<◌, ◌≤◌, Bool, cond, not, eqb, ltb, List, [], ◌∷◌, ◌++◌, length, get_or, take, drop, filter, sym, refl, ap, ◌∙◌, subst, ap₂, ⊎_elim, arith}
use Rattle.std.specs.List.{range_with_len}
use Rattle.std.proofs.lemmas.List.FromFn.{length-range_with_len, filter_of_map_range_with_len_more}
use Rattle.std.proofs.lemmas.List.Filters.{length-filter_both}
use Rattle.std.proofs.lemmas.List.{map-id, length-append, length_push, get_or_push, get_or_append_left, take-append-le, drop-append-le, drop_at, take_all, length-drop}
use Rattle.std.proofs.lemmas.Bool.{cases_eq, eq-eqb}
use Rattle.book.specs.Grouped.{states_at, Grouped}

-- what a test keeps of the first k states is no more than these
few_kept : (p : ℕ → Bool) (k : ℕ) → length (filter p (range_with_len 0 k)) ≤ k
few_kept p k =
    let a = length-filter_both p (λ s. not (p s)) (λ _. refl) (range_with_len 0 k) in
    let b = length-range_with_len 0 k in
    omega arith

-- one more node
split_below : (node : ℕ → ℕ) (v : ℕ) (xs : List ℕ)
    → length (filter (λ s. ltb (node s) (v + 1)) xs) ≡ length (filter (λ s. ltb (node s) v) xs) + length (filter (λ s. eqb (node s) v) xs)
split_below node v [] = refl
split_below node v (x ∷ xs) =
    let r = split_below node v xs in
    grind arith

-- one more state
pub states_more : (node : ℕ → ℕ) (k v : ℕ) → states_at node (k + 1) v ≡ states_at node k v ++ cond (eqb (node k) v) (k ∷ []) []
states_more node k v =
    let p : ℕ → Bool = λ s. eqb (node s) v in
    sym (ap (filter p) (map-id (range_with_len 0 (k + 1))))
    ∙ filter_of_map_range_with_len_more p (λ x. x) 0 k k (omega arith)
    ∙ ap (λ xs. filter p xs ++ cond (p k) (k ∷ []) []) (map-id (range_with_len 0 k))

-- of more states no fewer are members
longer : (node : ℕ → ℕ) (v k d : ℕ) → length (states_at node k v) ≤ length (states_at node (k + d) v)
longer node v k zero = let e : k + 0 ≡ k = omega arith in let q = ap (λ i. length (states_at node i v)) e in omega arith
longer node v k (suc d) =
    let e : k + suc d ≡ (k + d) + 1 = omega arith in
    let q = ap (λ i. length (states_at node i v)) e in
    let r = longer node v k d in
    let m = ap length (states_more node (k + d) v) ∙ length-append (states_at node (k + d) v) (cond (eqb (node (k + d)) v) ((k + d) ∷ []) []) in
    omega arith

-- a state of the node that comes before the k-th is one of its members
pub states_within : (node : ℕ → ℕ) (v k s : ℕ) → s < k → node s ≡ v → length (states_at node s v) + 1 ≤ length (states_at node k v)
states_within node v k s h e =
    let d : ℕ = k - (s + 1) in
    let z : (s + 1) + d ≡ k = omega arith in
    let q = ap (λ i. length (states_at node i v)) z in
    let r = longer node v (s + 1) d in
    let t = ap length (states_more node s v ∙ ap (λ b. states_at node s v ++ cond b (s ∷ []) []) (eq-eqb (node s) v e)) ∙ length-append (states_at node s v) (s ∷ []) in
    omega arith

-- the members of one more node are no more than the states
pub few_members : (node : ℕ → ℕ) (n k : ℕ) (starts members : List ℕ) → Grouped node n k starts members
    → length members + length (states_at node n k) ≤ n
few_members node n k starts members G =
    let a = split_below node k (range_with_len 0 n) in
    let b = few_kept (λ s. ltb (node s) (k + 1)) n in
    let d = G.few in
    omega arith

-- a part of a list that lies before its end is the same part of a longer list
part_append : (xs ys : List ℕ) (a b : ℕ) → a ≤ b → b ≤ length xs → take (b - a) (drop a (xs ++ ys)) ≡ take (b - a) (drop a xs)
part_append xs ys a b h l =
    let m = length-drop a xs in
    ap (λ (zs : List ℕ). take (b - a) zs) (drop-append-le a xs ys (omega arith)) ∙ take-append-le (b - a) (drop a xs) ys (omega arith)

-- and the part from its end on is what was added
part_added : (xs ys : List ℕ) (a b : ℕ) → a ≡ length xs → b ≡ length xs + length ys → take (b - a) (drop a (xs ++ ys)) ≡ ys
part_added xs ys a b h l =
    ap (λ (zs : List ℕ). take (b - a) zs) (drop_at xs ys a (sym h)) ∙ take_all (b - a) ys (omega arith)

module _ (node : ℕ → ℕ) (n k x : ℕ) (starts next members more : List ℕ) where
  pub grouped_more : Grouped node n k starts members → more ≡ members ++ states_at node n k
      → next ≡ starts ++ (x ∷ []) → x ≡ length more → Grouped node n (k + 1) next more
  grouped_more G eM eS ex = record {
    size = let a = long_s in let b = G.size in omega arith;
    few = let a = long_m in let b = G.few in let d = split_below node k (range_with_len 0 n) in omega arith;
    last = new_start ∙ ex;
    rises = λ v h. ⊎_elim
        (λ (q : v ≡ k). subst (λ (w : ℕ). get_or next w 0 ≤ get_or next (w + 1) 0) (sym q)
        (let a = old_start k (omega arith) in let b = new_start in let d = G.last in let m = long_m in omega arith))
        (λ (q : v ≡ k → ⊥).
        let a = old_start v (omega arith) in let b = old_start (v + 1) (omega arith) in let d = G.rises v (omega arith) in omega arith)
        (cases_eq v k);
    within = λ v h. ⊎_elim
        (λ (q : v ≡ k). subst (λ (w : ℕ). get_or next (w + 1) 0 ≤ length more) (sym q) (let b = new_start in omega arith))
        (λ (q : v ≡ k → ⊥).
        let b = old_start (v + 1) (omega arith) in let d = G.within v (omega arith) in let m = long_m in omega arith)
        (cases_eq v k);
    at = λ v h. ⊎_elim
        (λ (q : v ≡ k). subst (λ (w : ℕ). take (get_or next (w + 1) 0 - get_or next w 0) (drop (get_or next w 0) more) ≡ states_at node n w) (sym q)
        (let a = old_start k (omega arith) in let b = new_start in let d = G.last in let m = long_m in
        ap (λ (zs : List ℕ). take (get_or next (k + 1) 0 - get_or next k 0) (drop (get_or next k 0) zs)) eM
        ∙ part_added members (states_at node n k) (get_or next k 0) (get_or next (k + 1) 0) (omega arith) (omega arith)))
        (λ (q : v ≡ k → ⊥).
        ap₂ (λ (i j : ℕ). take (j - i) (drop i more)) (old_start v (omega arith)) (old_start (v + 1) (omega arith))
        ∙ ap (λ (zs : List ℕ). take (get_or starts (v + 1) 0 - get_or starts v 0) (drop (get_or starts v 0) zs)) eM
        ∙ part_append members (states_at node n k) (get_or starts v 0) (get_or starts (v + 1) 0) (G.rises v (omega arith)) (G.within v (omega arith))
        ∙ G.at v (omega arith))
        (cases_eq v k);
  }
    where
      long_s : length next ≡ length starts + 1
      long_s = ap length eS ∙ length_push starts x

      long_m : length more ≡ length members + length (states_at node n k)
      long_m = ap length eM ∙ length-append members (states_at node n k)

      new_start : get_or next (k + 1) 0 ≡ x
      new_start = ap (λ (zs : List ℕ). get_or zs (k + 1) 0) eS ∙ get_or_push starts x 0 (k + 1) G.size

      old_start : (v : ℕ) → v < k + 1 → get_or next v 0 ≡ get_or starts v 0
      old_start v h =
          ap (λ (zs : List ℕ). get_or zs v 0) eS ∙ get_or_append_left starts (x ∷ []) 0 v (let b = G.size in omega arith)
