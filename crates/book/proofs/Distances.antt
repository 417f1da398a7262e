-- Distances grow by one with each round of marks.
use Rattle.std.proofs.Common.{◌≡◌, ℕ, zero, suc, ◌+◌, ◌-◌, ◌<◌, ◌≤◌, Bool, true, false, cond, ◌&&◌, eqb, ltb, leb, Some, None, List, Option, length, set, sym, refl, ap, ◌∙◌, subst, ⊎_elim, arith}
use Rattle.std.specs.Option.{option_eq}
use Rattle.std.proofs.lemmas.Option.{none-some, same_Some}
use Rattle.std.proofs.lemmas.List.{get_or-set_same, get_or-set_other}
use Rattle.std.proofs.lemmas.Bool.{cases_Bool, cases_eq, cases_lt, both_ways, and_parts, and_from, and_left, or_cases, cond-true, cond-false, cond_both, eq-eqb, ne_eqb, eqb-true, lt-ltb, le-ltb, le-leb, lt-leb}
use Rattle.table.specs.Table.{Table, successor}
use Rattle.table.specs.Limits.{Lawful}
use Rattle.components.specs.Below.{first}
use Rattle.components.specs.Inside.{inside}
use Rattle.components.specs.Nodes.{node_of}
use Rattle.components.proofs.Below.{any_some, any_from, first_le}
use Rattle.components.proofs.Labels.{first_same}
use Rattle.rules.specs.Layers.{layer, level}
use Rattle.rules.specs.Play.{enters, inward, distance, toward}
use Rattle.rules.proofs.Distances.{inward_mono, inward_step, near as reached, distance_zero}
use Rattle.rules.proofs.Layers as layers
use Rattle.rules.proofs.Nodes.{joined, stays_node}
use Rattle.book.specs.Plays.{mark_at, has_mark, inside_into, first_into, Measured}
use Rattle.book.proofs.Searches.{any_ext, first_hit}

-- the distance from s to t if it is at most k
abbrev pub distance_to : Table → ℕ → ℕ → ℕ → Option ℕ
distance_to T t k s = cond (leb (distance T t s) k) (Some (distance T t s)) None

-- the marks of the states of node v are distances to t: up to k + 1 for those below s, and up to k for the others
abbrev pub Partly : Table → ℕ → ℕ → ℕ → ℕ → List (Option ℕ) → Type 0
Partly T v t k s distances = (u : ℕ) → u < T.states → node_of T u ≡ v → mark_at distances u ≡ distance_to T t (cond (ltb u s) (k + 1) k) u

-- two marks of one state are the same
pub one_mark : (o : Option ℕ) (a b : ℕ) → o ≡ Some a → o ≡ Some b → a ≡ b
one_mark o a b p q = same_Some a b (sym p ∙ q)

-- and a state with a mark is not without one
pub no_mark : (o : Option ℕ) (a : ℕ) → o ≡ Some a → o ≡ None → ⊥
no_mark o a p q = none-some a (sym q ∙ p)

-- what a test for a mark finds
mark_is : (o : Option ℕ) (k : ℕ) → option_eq eqb o (Some k) ≡ true → o ≡ Some k
mark_is None k e = absurd (both_ways false refl e)
mark_is (Some a) k e = ap Some (eqb-true a k e)

is_mark : (o : Option ℕ) (k : ℕ) → o ≡ Some k → option_eq eqb o (Some k) ≡ true
is_mark o k q = ap (λ (x : Option ℕ). option_eq eqb x (Some k)) q ∙ eq-eqb k k refl

module _ (T : Table) (L : Lawful T) (t : ℕ) where
  abbrev near : ℕ → ℕ → Bool
  near k = layer (λ u. eqb u t) (inward T) k

  near_at : (k s : ℕ) → distance T t s ≡ k → k ≤ T.states → near k s ≡ true
  unfolding distance level
  near_at k s e h =
      let a : first (suc T.states) (λ i. near i s) < suc T.states = omega arith in
      subst (λ (i : ℕ). near i s ≡ true) e (first_hit (suc T.states) (λ i. near i s) a)

  near_least : (k s : ℕ) → near k s ≡ true → distance T t s ≤ k
  unfolding distance level
  near_least k s e = first_le (suc T.states) (λ i. near i s) k e

  pub distance_other : (s : ℕ) → (s ≡ t → ⊥) → 0 < distance T t s
  unfolding layer
  distance_other s n =
      ⊎_elim
      (λ (q : distance T t s ≡ 0). absurd (n (eqb-true s t (near_at 0 s q (omega arith)))))
      (λ (q : distance T t s ≡ 0 → ⊥). omega arith)
      (cases_eq (distance T t s) 0)

  -- a branch of an inside choice leads one step nearer at most
  pub rise : (s c b : ℕ) → c < T.choices s → inside T s c ≡ true → b < T.branches s c
      → distance T t (successor T s c b) ≤ T.states → distance T t s ≤ suc (distance T t (successor T s c b))
  rise s c b h i l e =
      let k = distance T t (successor T s c b) in
      near_least (suc k) s (inward_step T L t k s c b h i l (near_at k (successor T s c b) refl e))

  -- no state of the node of t is further away than there are states
  pub within : (s : ℕ) → s < T.states → t < T.states → node_of T s ≡ node_of T t → distance T t s ≤ T.states
  unfolding distance
  within s h l e =
      let k = reached T L (joined T L s t h l e) in
      layers.level_low T.states (λ u. eqb u t) (inward T) (inward_mono T L) k.0 s h k.1

  -- a state k + 1 steps away has an inside choice with a branch to one k steps away
  pub fall : (s k : ℕ) → distance T t s ≡ k + 1 → k + 1 ≤ T.states
      → (c : ℕ) × (c < T.choices s) × (inside T s c ≡ true) × (b : ℕ) × (b < T.branches s c) × (distance T t (successor T s c b) ≡ k)
  unfolding layer
  fall s k e h =
      let g : near (suc k) s ≡ true = near_at (suc k) s (omega arith) (omega arith) in
      ⊎_elim
      (λ (q : near k s ≡ true). let a = near_least k s q in absurd (omega arith))
      (λ (q : inward T (near k) s ≡ true).
      let x = any_some (T.choices s) (λ d. inside T s d && enters T (near k) s d) q in
      let w = and_parts (inside T s x.0) (enters T (near k) s x.0) x.2 in
      let y = any_some (T.branches s x.0) (λ d. near k (successor T s x.0 d)) w.1 in
      let a = near_least k (successor T s x.0 y.0) y.2 in
      let r = rise s x.0 y.0 x.1 w.0 y.1 (omega arith) in
      (x.0, x.1, w.0, y.0, y.1, omega arith))
      (or_cases (near k s) (inward T (near k) s) g)

  -- what a mark says of the distance
  value : (j u : ℕ) → distance T t u ≤ j → distance_to T t j u ≡ Some (distance T t u)
  value j u h = cond-true (leb (distance T t u) j) (Some (distance T t u)) None (le-leb (distance T t u) j h)

  beyond : (j u : ℕ) → j < distance T t u → distance_to T t j u ≡ None
  beyond j u h = cond-false (leb (distance T t u) j) (Some (distance T t u)) None (lt-leb (distance T t u) j h)

  read : (j u k : ℕ) → distance_to T t j u ≡ Some k → distance T t u ≡ k
  read j u k e =
      ⊎_elim
      (λ (l : j < distance T t u). absurd (no_mark (distance_to T t j u) k e (beyond j u l)))
      (λ (l : distance T t u ≤ j). one_mark (distance_to T t j u) (distance T t u) k (value j u l) e)
      (cases_lt j (distance T t u))

  unread : (j u : ℕ) → distance_to T t j u ≡ None → j < distance T t u
  unread j u e =
      ⊎_elim
      (λ (l : j < distance T t u). l)
      (λ (l : distance T t u ≤ j). absurd (no_mark (distance_to T t j u) (distance T t u) (value j u l) e))
      (cases_lt j (distance T t u))

  reach : (u s k : ℕ) → k ≤ cond (ltb u s) (k + 1) k
  reach u s k = cond_both (ltb u s) (k + 1) k (λ x. k ≤ x) (λ _. omega arith) (λ _. omega arith)

  passed : (u s k : ℕ) → u < s → cond (ltb u s) (k + 1) k ≡ k + 1
  passed u s k h = cond-true (ltb u s) (k + 1) k (lt-ltb u s h)

  ahead : (u s k : ℕ) → s ≤ u → cond (ltb u s) (k + 1) k ≡ k
  ahead u s k h = cond-false (ltb u s) (k + 1) k (le-ltb u s h)

  -- a state other than s is read up to the same distance before and after the turn at s
  apart : (u s k : ℕ) → (u ≡ s → ⊥) → cond (ltb u s) (k + 1) k ≡ cond (ltb u (s + 1)) (k + 1) k
  apart u s k n =
      ⊎_elim
      (λ (l : u < s). passed u s k l ∙ sym (passed u (s + 1) k (omega arith)))
      (λ (l : s ≤ u). ahead u s k l ∙ sym (ahead u (s + 1) k (omega arith)))
      (cases_lt u s)

  -- reading one step further changes nothing for a state that is not there
  same : (k u : ℕ) → (distance T t u ≡ k + 1 → ⊥) → distance_to T t k u ≡ distance_to T t (k + 1) u
  same k u none =
      ⊎_elim
      (λ (l : k < distance T t u).
      ⊎_elim
      (λ (q : distance T t u ≡ k + 1). absurd (none q))
      (λ (q : distance T t u ≡ k + 1 → ⊥). beyond k u l ∙ sym (beyond (k + 1) u (omega arith)))
      (cases_eq (distance T t u) (k + 1)))
      (λ (l : distance T t u ≤ k). value k u l ∙ sym (value (k + 1) u (omega arith)))
      (cases_lt k (distance T t u))

  module _ (v : ℕ) where
    pub starts : (distances : List (Option ℕ)) → T.states ≤ length distances → t < T.states
        → ((u : ℕ) → u < T.states → node_of T u ≡ v → mark_at distances u ≡ None) → Partly T v t 0 0 (set distances t (Some 0))
    starts distances h k all u l e =
        ⊎_elim
        (λ (q : u ≡ t).
        let z = distance_zero T L t u q in
        let i : t < length distances = omega arith in
        let a : mark_at (set distances t (Some 0)) u ≡ Some 0 = rw q (get_or-set_same distances t (Some 0) None i) in
        let b = value (cond (ltb u 0) (0 + 1) 0) u (omega arith) in
        a ∙ sym (b ∙ ap Some z))
        (λ (q : u ≡ t → ⊥).
        let z = distance_other u q in
        let a : mark_at (set distances t (Some 0)) u ≡ mark_at distances u = get_or-set_other distances t u (Some 0) None q in
        let j = ahead u 0 0 (omega arith) in
        let b = beyond (cond (ltb u 0) (0 + 1) 0) u (omega arith) in
        a ∙ all u l e ∙ sym b)
        (cases_eq u t)

    -- an unmarked state with a branch to one that is k steps away is k + 1 steps away
    pub hit : (k s : ℕ) (distances : List (Option ℕ)) → Partly T v t k s distances → s < T.states → node_of T s ≡ v → k < T.states
        → mark_at distances s ≡ None → first_into T distances k s < T.choices s → distance T t s ≡ k + 1
    hit k s distances p h e l un f =
        let P : ℕ → Bool = inside_into T distances k s in
        let c : ℕ = first_into T distances k s in
        let x : P c ≡ true = first_hit (T.choices s) P f in
        let w = and_parts (inside T s c) (enters T (has_mark distances k) s c) x in
        let y = any_some (T.branches s c) (λ b. has_mark distances k (successor T s c b)) w.1 in
        let u : ℕ = successor T s c y.0 in
        let m = p u (L.successors s c y.0 h f y.1) (stays_node T L s c y.0 w.0 y.1 ∙ e) in
        let d : distance T t u ≡ k = read (cond (ltb u s) (k + 1) k) u k (sym m ∙ mark_is (mark_at distances u) k y.2) in
        let r = rise s c y.0 f w.0 y.1 (omega arith) in
        let g = unread (cond (ltb s s) (k + 1) k) s (sym (p s h e) ∙ un) in
        let i = reach s s k in
        omega arith

    pub miss : (k s : ℕ) (distances : List (Option ℕ)) → Partly T v t k s distances → s < T.states → node_of T s ≡ v → k < T.states
        → T.choices s ≤ first_into T distances k s → distance T t s ≡ k + 1 → ⊥
    miss k s distances p h e l f d =
        let x = fall s k d (omega arith) in
        let c : ℕ = x.0 in
        let b : ℕ = x.3 in
        let u : ℕ = successor T s c b in
        let m = p u (L.successors s c b h x.1 x.4) (stays_node T L s c b x.2 x.4 ∙ e) in
        let du : distance T t u ≡ k = x.5 in
        let i = reach u s k in
        let a : mark_at distances u ≡ Some k = m ∙ value (cond (ltb u s) (k + 1) k) u (omega arith) ∙ ap Some du in
        let q = first_le (T.choices s) (inside_into T distances k s) c
        (and_from (inside T s c) (enters T (has_mark distances k) s c) x.2
        (any_from (T.branches s c) (λ b. has_mark distances k (successor T s c b)) b x.4 (is_mark (mark_at distances u) k a))) in
        let lc : c < T.choices s = x.1 in
        omega arith

    -- a state that is one step further has no mark before its turn
    pub unmarked : (k s : ℕ) (distances : List (Option ℕ)) → Partly T v t k s distances → s < T.states → node_of T s ≡ v
        → distance T t s ≡ k + 1 → mark_at distances s ≡ None
    unmarked k s distances p h e d =
        let j = ahead s s k (omega arith) in
        p s h e ∙ beyond (cond (ltb s s) (k + 1) k) s (omega arith)

    pub marked : (k s : ℕ) (distances : List (Option ℕ)) → Partly T v t k s distances → s < T.states → T.states ≤ length distances
        → distance T t s ≡ k + 1 → Partly T v t k (s + 1) (set distances s (Some (k + 1)))
    marked k s distances p h m d u l e =
        ⊎_elim
        (λ (q : u ≡ s).
        let i : s < length distances = omega arith in
        let a : mark_at (set distances s (Some (k + 1))) u ≡ Some (k + 1) = rw q (get_or-set_same distances s (Some (k + 1)) None i) in
        let j = passed u (s + 1) k (omega arith) in
        let du : distance T t u ≡ k + 1 = rw q d in
        let b = value (cond (ltb u (s + 1)) (k + 1) k) u (omega arith) in
        a ∙ sym (b ∙ ap Some du))
        (λ (q : u ≡ s → ⊥).
        let a : mark_at (set distances s (Some (k + 1))) u ≡ mark_at distances u = get_or-set_other distances s u (Some (k + 1)) None q in
        a ∙ p u l e ∙ ap (λ (j : ℕ). distance_to T t j u) (apart u s k q))
        (cases_eq u s)

    pub kept : (k s : ℕ) (distances : List (Option ℕ)) → Partly T v t k s distances
        → (node_of T s ≡ v → distance T t s ≡ k + 1 → ⊥) → Partly T v t k (s + 1) distances
    kept k s distances p none u l e =
        ⊎_elim
        (λ (q : u ≡ s).
        let nu : distance T t u ≡ k + 1 → ⊥ = λ d. none (ap (node_of T) (sym q) ∙ e) (ap (distance T t) (sym q) ∙ d) in
        let i = ahead u s k (omega arith) in
        let j = passed u (s + 1) k (omega arith) in
        p u l e ∙ ap (λ (x : ℕ). distance_to T t x u) i ∙ same k u nu ∙ ap (λ (x : ℕ). distance_to T t x u) (sym j))
        (λ (q : u ≡ s → ⊥). p u l e ∙ ap (λ (j : ℕ). distance_to T t j u) (apart u s k q))
        (cases_eq u s)

    -- numbers that are no states of the node change nothing
    pub skip : (k s n : ℕ) (distances : List (Option ℕ)) → Partly T v t k s distances → s ≤ n
        → ((u : ℕ) → s ≤ u → u < n → node_of T u ≡ v → ⊥) → Partly T v t k n distances
    skip k s n distances p h none u l e =
        p u l e
        ∙ ap (λ (j : ℕ). distance_to T t j u)
        (⊎_elim
        (λ (a : u < s). passed u s k a ∙ sym (passed u n k (omega arith)))
        (λ (a : s ≤ u).
        ⊎_elim
        (λ (b : u < n). absurd (none u a b e))
        (λ (b : n ≤ u). ahead u s k a ∙ sym (ahead u n k b))
        (cases_lt u n))
        (cases_lt u s))

    pub next : (k : ℕ) (distances : List (Option ℕ)) → Partly T v t k T.states distances → Partly T v t (k + 1) 0 distances
    next k distances p u l e =
        p u l e ∙ ap (λ (j : ℕ). distance_to T t j u) (passed u T.states k l ∙ sym (ahead u 0 (k + 1) (omega arith)))

    -- a distance that no state of the node has parts those below from none above
    gap : (k : ℕ) → ((u : ℕ) → u < T.states → node_of T u ≡ v → distance T t u ≡ k + 1 → ⊥)
        → (i s : ℕ) → s < T.states → node_of T s ≡ v → distance T t s ≡ (k + 1) + i → (k + 1) + i ≤ T.states → ⊥
    gap k none zero s h e d l = none s h e (omega arith)
    gap k none (suc i) s h e d l =
        let x = fall s ((k + 1) + i) (omega arith) (omega arith) in
        gap k none i (successor T s x.0 x.3) (L.successors s x.0 x.3 h x.1 x.4)
        (stays_node T L s x.0 x.3 x.2 x.4 ∙ e) x.5 (omega arith)

    pub done : t < T.states → node_of T t ≡ v → (k : ℕ) (distances : List (Option ℕ)) → Partly T v t k T.states distances
        → ((u : ℕ) → u < T.states → node_of T u ≡ v → distance T t u ≡ k + 1 → ⊥) → Measured T v t distances
    done a b k distances p none s h e =
        let j = passed s T.states k h in
        let m = within s h a (e ∙ sym b) in
        ⊎_elim
        (λ (l : k + 1 < distance T t s). absurd (gap k none (distance T t s - (k + 1)) s h e (omega arith) (omega arith)))
        (λ (l : distance T t s ≤ k + 1). p s h e ∙ value (cond (ltb s T.states) (k + 1) k) s (omega arith))
        (cases_lt (k + 1) (distance T t s))

    pub all : t < T.states → node_of T t ≡ v → (distances : List (Option ℕ)) → Partly T v t T.states 0 distances → Measured T v t distances
    all a b distances p s h e =
        let j = ahead s 0 T.states (omega arith) in
        let m = within s h a (e ∙ sym b) in
        p s h e ∙ value (cond (ltb s 0) (T.states + 1) T.states) s (omega arith)

  -- the first inside choice with a branch to a state one step nearer
  pub toward_into : (s d : ℕ) (distances : List (Option ℕ)) → s < T.states → (s ≡ t → ⊥) → Measured T (node_of T s) t distances
      → d ≡ distance T t s → first_into T distances (d - 1) s ≡ toward T t s
  unfolding toward
  toward_into s d distances h n m ds =
      let o = distance_other s n in
      first_same (T.choices s)
      (inside_into T distances (d - 1) s)
      (λ c. inside T s c && enters T (λ u. eqb (suc (distance T t u)) (distance T t s)) s c)
      (λ c l.
      ⊎_elim
      (λ (i : inside T s c ≡ true).
      ap (λ (x : Bool). inside T s c && x)
      (any_ext (T.branches s c)
      (λ b. has_mark distances (d - 1) (successor T s c b))
      (λ b. eqb (suc (distance T t (successor T s c b))) (distance T t s))
      (λ b k.
      let u : ℕ = successor T s c b in
      let du : mark_at distances u ≡ Some (distance T t u) = m u (L.successors s c b h l k) (stays_node T L s c b i k) in
      ap (λ (x : Option ℕ). option_eq eqb x (Some (d - 1))) du
      ∙ ⊎_elim
      (λ (q : suc (distance T t u) ≡ distance T t s).
      eq-eqb (distance T t u) (d - 1) (omega arith) ∙ sym (eq-eqb (suc (distance T t u)) (distance T t s) q))
      (λ (q : suc (distance T t u) ≡ distance T t s → ⊥).
      ne_eqb (distance T t u) (d - 1) (λ z. q (omega arith)) ∙ sym (ne_eqb (suc (distance T t u)) (distance T t s) q))
      (cases_eq (suc (distance T t u)) (distance T t s)))))
      (λ (i : inside T s c ≡ false).
      and_left (inside T s c) (enters T (has_mark distances (d - 1)) s c) i
      ∙ sym (and_left (inside T s c) (enters T (λ u. eqb (suc (distance T t u)) (distance T t s)) s c) i))
      (cases_Bool (inside T s c)))
