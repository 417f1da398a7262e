-- Every node has a depth.
use Rattle.std.proofs.Common.{◌≡◌, ℕ, zero, suc, ◌<◌, ◌≤◌, Bool, true, false, not, ◌&&◌, ◌||◌, eqb, ◌⊎◌, refl, ap, ◌∙◌, inl, inr, ⊎_elim, arith}
use Rattle.std.proofs.lemmas.Bool.{and_parts, and_cases, or_cases, or_parts, cases_Bool, cases_eq, both_ways, not-true, not-false, not_from_true, not_from_false, eq-eqb, eqb-true}
use Rattle.table.specs.Table.{Table, successor}
use Rattle.table.specs.Limits.{Lawful}
use Rattle.components.specs.Below.{every, any, count}
use Rattle.components.specs.EndComponent.{States, Reaches}
use Rattle.components.specs.Inside.{inside}
use Rattle.components.specs.Nodes.{is_lowest, nodes, node_of, states_of_node}
use Rattle.components.specs.Depth.{Leaving, Falls, depth_below, depth}
use Rattle.components.specs.Law.{Lowest, DepthLaw}
use Rattle.components.proofs.Below.{every_at, every_fails, any_some, any_none, first_le, first_at, count_lt, count_most}
use Rattle.components.proofs.Settles.{settles}
use Rattle.components.proofs.Reach.{within, bounded}
use Rattle.components.proofs.Numbering.{G}
use Rattle.components.proofs.Nodes.{own_node, node_reached, node_law}
use Rattle.components.proofs.Trap.{Stays, trap}

-- The test for one more layer of nodes

abbrev branch_into : Table → (ℕ → Bool) → ℕ → ℕ → Bool
branch_into T D s c = any (T.branches s c) (λ b. D (node_of T (successor T s c b)))

abbrev all_into : Table → (ℕ → Bool) → ℕ → Bool
all_into T D s = every (T.choices s) (λ c. inside T s c || branch_into T D s c)

abbrev enters : Table → (ℕ → Bool) → ℕ → Bool
enters T D v = every T.states (λ s. not (eqb (node_of T s) v) || all_into T D s)

-- each leaving choice of v has a branch to a node of D
abbrev Enters : Table → (ℕ → Bool) → ℕ → Type 0
Enters T D v = (s c : ℕ) → Leaving T v s c → (b : ℕ) × (b < T.branches s c) × (D (node_of T (successor T s c b)) ≡ true)

-- a leaving choice of v has none
abbrev Misses : Table → (ℕ → Bool) → ℕ → Type 0
Misses T D v =
    (s : ℕ) × (c : ℕ) × Leaving T v s c × ((b : ℕ) → b < T.branches s c → D (node_of T (successor T s c b)) ≡ false)

enters_sound : (T : Table) (D : ℕ → Bool) (v : ℕ) → enters T D v ≡ true → Enters T D v
enters_sound T D v e s c w =
    ⊎_elim
    (λ (f : not (eqb (node_of T s) v) ≡ true).
    absurd (both_ways (eqb (node_of T s) v) (not-true (eqb (node_of T s) v) f) (eq-eqb (node_of T s) v w.node)))
    (λ (f : all_into T D s ≡ true).
    ⊎_elim
    (λ (g : inside T s c ≡ true). absurd (both_ways (inside T s c) w.out g))
    (any_some (T.branches s c) (λ b. D (node_of T (successor T s c b))))
    (or_cases (inside T s c) (branch_into T D s c)
    (every_at (T.choices s) (λ d. inside T s d || branch_into T D s d) f c w.choice.choice)))
    (or_cases (not (eqb (node_of T s) v)) (all_into T D s)
    (every_at T.states (λ t. not (eqb (node_of T t) v) || all_into T D t) e s w.choice.state))

enters_fails : (T : Table) (D : ℕ → Bool) (v : ℕ) → enters T D v ≡ false → Misses T D v
enters_fails T D v e =
    let x = every_fails T.states (λ t. not (eqb (node_of T t) v) || all_into T D t) e in
    let s = x.0 in
    let y = or_parts (not (eqb (node_of T s) v)) (all_into T D s) x.2 in
    let z = every_fails (T.choices s) (λ d. inside T s d || branch_into T D s d) y.1 in
    let c = z.0 in
    let w = or_parts (inside T s c) (branch_into T D s c) z.2 in (
      s,
      c,
      record {
        choice = record { state = x.1; choice = z.1 };
        node = eqb-true (node_of T s) v (not-false (eqb (node_of T s) v) y.0);
        out = w.0;
      },
      any_none (T.branches s c) (λ b. D (node_of T (successor T s c b))) w.1,
    )

enters_from : (T : Table) (D : ℕ → Bool) (v : ℕ) → Enters T D v → enters T D v ≡ true
enters_from T D v k =
    ⊎_elim
    (λ (e : enters T D v ≡ true). e)
    (λ (e : enters T D v ≡ false).
    let w = enters_fails T D v e in
    let r = k w.0 w.1 w.2 in
    absurd (both_ways (D (node_of T (successor T w.0 w.1 r.0))) (w.3 r.0 r.1) r.2))
    (cases_Bool (enters T D v))

-- The nodes of depth below k

next_sound : (T : Table) (k v : ℕ) → depth_below T (suc k) v ≡ true → Enters T (depth_below T k) v
unfolding depth_below
next_sound T k v e = enters_sound T (depth_below T k) v e

next_from : (T : Table) (k v : ℕ) → Enters T (depth_below T k) v → depth_below T (suc k) v ≡ true
unfolding depth_below
next_from T k v n = enters_from T (depth_below T k) v n

below_more : (T : Table) (k v : ℕ) → depth_below T k v ≡ true → depth_below T (suc k) v ≡ true
unfolding depth_below
below_more T zero v e = absurd (both_ways false refl e)
below_more T (suc k) v e =
    next_from T (suc k) v (λ s c w.
    let x = next_sound T k v e s c w in
    (x.0, x.1, below_more T k (node_of T (successor T s c x.0)) x.2))

below_up : (T : Table) (j k v : ℕ) → j ≤ k → depth_below T j v ≡ true → depth_below T k v ≡ true
below_up T j zero v h e = let z : j ≡ 0 = omega arith in rw z at e
below_up T j (suc k) v h e =
    ⊎_elim
    (λ (q : j ≡ suc k). rw q at e)
    (λ (q : j ≡ suc k → ⊥). below_more T k v (below_up T j k v (omega arith) e))
    (cases_eq j (suc k))

module _ (T : Table) (law : Lawful T) where
  -- where a node is outside D, some node outside D enters D
  progress : (D : ℕ → Bool) (v : ℕ) → v < nodes T → D v ≡ false
      → (w : ℕ) × (w < nodes T) × (D w ≡ false) × Enters T D w
  progress D v h e =
      ⊎_elim found
      (λ (f : any (nodes T) ready ≡ false). absurd (at_node f ((node_law T law).lowest v h)))
      (cases_Bool (any (nodes T) ready))
    where
      ready : ℕ → Bool
      ready w = not (D w) && enters T D w

      found : any (nodes T) ready ≡ true → (w : ℕ) × (w < nodes T) × (D w ≡ false) × Enters T D w
      found f =
          let x = any_some (nodes T) ready f in
          let w = and_parts (not (D x.0)) (enters T D x.0) x.2 in
          (x.0, x.1, not-true (D x.0) w.0, enters_sound T D x.0 w.1)

      -- D as a set of states
      S : States
      S s = D (node_of T s)

      same_node : (s t : ℕ) → s < T.states → Reaches T (inside T) s t → node_of T t ≡ node_of T s
      same_node s t l r =
          eqb-true (node_of T t) (node_of T s) ((node_reached T law (node_of T s) s l (own_node T law s) t (bounded law l r)).1 r)

      whole : (s t : ℕ) → s < T.states → Reaches T (inside T) s t → S s ≡ true → S t ≡ true
      whole s t l r g = rw (same_node s t l r) g

      misses : any (nodes T) ready ≡ false → (w : ℕ) → w < nodes T → D w ≡ false → Misses T D w
      misses f w l g =
          ⊎_elim
          (λ (k : not (D w) ≡ false). absurd (both_ways (D w) g (not-false (D w) k)))
          (enters_fails T D w)
          (and_cases (not (D w)) (enters T D w) (any_none (nodes T) ready f w l))

      stuck : any (nodes T) ready ≡ false → (q : ℕ) → q < T.states → S q ≡ false → Stays T (inside T) S q
      stuck f q l g =
          let x = misses f (node_of T q) ((node_law T law).each q l) g in
          let w = x.2 in (
            x.0,
            x.1,
            (node_reached T law (node_of T q) q l (own_node T law q) x.0 w.choice.state).0 (eq-eqb (node_of T x.0) (node_of T q) w.node),
            w.choice,
            w.out,
            x.3,
          )

      at_node : any (nodes T) ready ≡ false → (s : ℕ) × Lowest T (states_of_node T v) s → ⊥
      at_node f x =
          trap T law (inside T) (G T law) S whole (stuck f) x.0 x.1.state
          (ap D (eqb-true (node_of T x.0) v x.1.member) ∙ e)

  Full : ℕ → Type 0
  Full k = (v : ℕ) → v < nodes T → depth_below T k v ≡ true

  -- how many nodes are not of depth below k
  deep : ℕ → ℕ
  deep k = count (nodes T) (λ v. not (depth_below T k v))

  turn : (k : ℕ) → Full k ⊎ (deep (suc k) < deep k)
  unfolding Full deep
  turn k =
      ⊎_elim
      (λ (e : every (nodes T) (depth_below T k) ≡ true). inl (every_at (nodes T) (depth_below T k) e))
      (λ (e : every (nodes T) (depth_below T k) ≡ false). inr (grows (every_fails (nodes T) (depth_below T k) e)))
      (cases_Bool (every (nodes T) (depth_below T k)))
    where
      fewer : (v : ℕ) → v < nodes T → not (depth_below T (suc k) v) ≡ true → not (depth_below T k v) ≡ true
      fewer v h e =
          ⊎_elim
          (λ (f : depth_below T k v ≡ true).
          absurd (both_ways (depth_below T (suc k) v) (not-true (depth_below T (suc k) v) e) (below_more T k v f)))
          (not_from_false (depth_below T k v))
          (cases_Bool (depth_below T k v))

      grows : (v : ℕ) × (v < nodes T) × (depth_below T k v ≡ false) → deep (suc k) < deep k
      grows x =
          let p = progress (depth_below T k) x.0 x.1 x.2 in
          count_lt (nodes T) (λ v. not (depth_below T (suc k) v)) (λ v. not (depth_below T k v)) fewer p.0 p.1
          (not_from_true (depth_below T (suc k) p.0) (next_from T k p.0 p.3))
          (not_from_false (depth_below T k p.0) p.2)

  still : (k : ℕ) → Full k → Full (suc k)
  unfolding Full
  still k f v h = below_more T k v (f v h)

  full : Full T.states
  unfolding deep nodes
  full =
      settles deep Full turn still T.states
      (let a = count_most (nodes T) (λ v. not (depth_below T 0 v)) in
      let b : nodes T ≤ T.states = count_most T.states (is_lowest T) in
      omega arith)

  -- The depth as a number

  depth_least : (k v : ℕ) → depth_below T (suc k) v ≡ true → depth T v ≤ k
  unfolding depth
  depth_least k v e = first_le T.states (λ i. depth_below T (suc i) v) k e

  -- a depth below n is at most the number before n
  below_pos : (n v : ℕ) → depth_below T n v ≡ true → (k : ℕ) × (n ≡ suc k) × (depth_below T (suc k) v ≡ true)
  unfolding depth_below
  below_pos zero v e = absurd (both_ways false refl e)
  below_pos (suc k) v e = (k, refl, e)

  depth_at : (v : ℕ) → v < nodes T → depth_below T (suc (depth T v)) v ≡ true
  unfolding depth Full
  depth_at v h =
      let x = below_pos T.states v (full v h) in
      first_at T.states (λ i. depth_below T (suc i) v) x.0 (omega arith) x.2

  depth_low : (v : ℕ) → v < nodes T → depth T v ≤ T.states
  unfolding Full
  depth_low v h =
      let x = below_pos T.states v (full v h) in
      let l = depth_least x.0 v x.2 in
      omega arith

  depth_falls : (v : ℕ) → v < nodes T → Falls T (depth T) v (depth T v)
  depth_falls v h s c w =
      let x = next_sound T (depth T v) v (depth_at v h) s c w in
      let u = node_of T (successor T s c x.0) in
      let y = below_pos (depth T v) u x.2 in
      let l = depth_least y.0 u y.2 in
      (x.0, x.1, omega arith)

  depth_first : (v : ℕ) → v < nodes T → (k : ℕ) → Falls T (depth T) v k → depth T v ≤ k
  depth_first v h k f =
      depth_least k v (next_from T k v (λ s c w.
      let x = f s c w in
      let u = node_of T (successor T s c x.0) in
      let l = (node_law T law).each (successor T s c x.0) (within law w.choice x.1) in
      (x.0, x.1, below_up T (suc (depth T u)) k u x.2 (depth_at u l))))

  pub depth_law : DepthLaw T
  depth_law = record {
    least = λ v h. record { falls = depth_falls v h; least = depth_first v h };
    bound = depth_low;
  }
