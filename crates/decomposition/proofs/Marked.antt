-- Bits that are set in a row, one after another, and Warshall's rule on bits.
use Rattle.std.proofs.Common.{◌≡◌, ℕ, zero, suc, ◌+◌, ◌/◌, ◌%◌, ◌^◌, ◌<◌, ◌≤◌, Bool, false, ◌&&◌, ◌||◌, eqb, List, [], get_or, replicate, sym, refl, ap, ◌∙◌, ap₂, ⊎_elim, add-one, arith}
use native.Mathlib.Nat.{zero-div}
use Rattle.std.proofs.Math.Bool.{or_assoc, and-or_distrib_left}
use Rattle.std.proofs.lemmas.List.{get_or_past, get_or-replicate, length-replicate}
use Rattle.std.proofs.lemmas.Bool.{cases_eq, cases_lt, eq-eqb, ne_eqb}
use Rattle.table.specs.Table.{Table, successor}
use Rattle.components.specs.Below.{any}
use Rattle.components.specs.EndComponent.{Choices}
use Rattle.components.specs.Inside.{leads, via, reach}
use Rattle.components.proofs.Below.{grid_at}
use Rattle.decomposition.specs.Bits.{bit_of, bit_in, bit_at, Marks}
use Rattle.decomposition.specs.Marking.{branch_to, one_step, Shows, through, closure}

pub any_more : (k : ℕ) (p : ℕ → Bool) → any (k + 1) p ≡ (any k p || p k)
any_more k p = rw add-one refl

pub eqb_turn : (a b : ℕ) → eqb a b ≡ eqb b a
eqb_turn a b =
    ⊎_elim
    (λ (e : a ≡ b). eq-eqb a b e ∙ sym (eq-eqb b a (sym e)))
    (λ (e : a ≡ b → ⊥). ne_eqb a b e ∙ sym (ne_eqb b a (λ f. e (sym f))))
    (cases_eq a b)

or_join : (x e p q : Bool) → ((x || (e && p)) || (e && q)) ≡ (x || (e && (p || q)))
or_join x e p q = or_assoc x (e && p) (e && q) ∙ ap (λ (y : Bool). x || y) (sym (and-or_distrib_left e p q))

pub marks_join : (a b c : List (List ℕ)) (row : ℕ) (p q : ℕ → Bool) → Marks a b row p → Marks b c row q → Marks a c row (λ t. p t || q t)
marks_join a b c row p q m n r t h =
    n r t h ∙ ap (λ (x : Bool). x || (eqb r row && q t)) (m r t h) ∙ or_join (bit_at a r t) (eqb r row) (p t) (q t)

pub marks_ext : (a b : List (List ℕ)) (row : ℕ) (p q : ℕ → Bool) → ((t : ℕ) → p t ≡ q t) → Marks a b row p → Marks a b row q
marks_ext a b row p q e m r t h = m r t h ∙ ap (λ (x : Bool). bit_at a r t || (eqb r row && x)) (e t)

-- one more branch of a choice
pub branch_more : (T : Table) (s c b u : ℕ) (old now next : List (List ℕ))
    → Marks old now s (λ t. any b (λ d. eqb (successor T s c d) t)) → Marks now next s (λ t. eqb t u) → u ≡ successor T s c b
    → Marks old next s (λ t. any (b + 1) (λ d. eqb (successor T s c d) t))
branch_more T s c b u old now next m n e =
    marks_ext old next s (λ t. any b (λ d. eqb (successor T s c d) t) || eqb t u) (λ t. any (b + 1) (λ d. eqb (successor T s c d) t))
    (λ t.
    ap (λ (x : Bool). any b (λ d. eqb (successor T s c d) t) || x) (eqb_turn t u ∙ ap (λ (x : ℕ). eqb x t) e)
    ∙ sym (any_more b (λ d. eqb (successor T s c d) t)))
    (marks_join old now next s (λ t. any b (λ d. eqb (successor T s c d) t)) (λ t. eqb t u) m n)

-- one more choice of a state: kept, or not
abbrev pub by_choices : Table → Choices → ℕ → ℕ → ℕ → Bool
by_choices T A s k t = any k (λ c. A s c && branch_to T s c t)

-- the rows before k are marked, the others clear
pub record Rows (T : Table) (A : Choices) (k : ℕ) (rows : List (List ℕ)) : Type 0 where
  pub done : (r t : ℕ) → t < 256 → r < k → bit_at rows r t ≡ one_step T A r t
  pub rest : (r t : ℕ) → t < 256 → k ≤ r → bit_at rows r t ≡ false

-- Warshall's rule: the rows before i have the ways through the middle state, the others are as they were
pub record Passing (n : ℕ) (old now : List (List ℕ)) (middle i : ℕ) : Type 0 where
  pub done : (s t : ℕ) → s < n → t < 256 → s < i → bit_at now s t ≡ through (bit_at old) middle s t
  pub rest : (s t : ℕ) → s < n → t < 256 → i ≤ s → bit_at now s t ≡ bit_at old s t

-- one more middle state
pub closing_more : (n : ℕ) (rows next : List (List ℕ)) (r : ℕ → ℕ → Bool) (k : ℕ) → k < n → Shows n rows (closure r k)
    → Shows n next (through (bit_at rows) k) → Shows n next (closure r (k + 1))
unfolding closure
closing_more n rows next r k h w m s t hs ht =
    rw add-one
    (m s t hs ht
    ∙ ap₂ (λ (x y : Bool). x || y) (w s t hs ht) (ap₂ (λ (x y : Bool). x && y) (w s k hs h) (w k t h ht)))

-- bits closed by Warshall's rule show what is reached
module _ (T : Table) (A : Choices) (start : List (List ℕ)) (e : Shows T.states start (one_step T A)) where
  closure_via : (k : ℕ) → k ≤ T.states → (s t : ℕ) → s < T.states → t < T.states → closure (bit_at start) k s t ≡ via T A k s t
  unfolding closure via
  closure_via zero l s t hs ht =
      e s t hs ht ∙ sym (grid_at T.states (λ _. T.states) (λ x y. eqb x y || leads T A x y) s t hs ht)
  closure_via (suc k) l s t hs ht =
      let ih : (x y : ℕ) → x < T.states → y < T.states → closure (bit_at start) k x y ≡ via T A k x y = closure_via k (omega arith) in
      ap₂ (λ (x y : Bool). x || y) (ih s t hs ht) (ap₂ (λ (x y : Bool). x && y) (ih s k hs l) (ih k t l ht))
      ∙ sym (grid_at T.states (λ _. T.states) (λ x y. via T A k x y || (via T A k x k && via T A k k y)) s t hs ht)

  pub reach_shown : (rows : List (List ℕ)) → Shows T.states rows (closure (bit_at start) T.states) → Shows T.states rows (reach T A)
  unfolding reach
  reach_shown rows w s t hs ht = w s t hs ht ∙ closure_via T.states (omega arith) s t hs ht

-- words that are all 0 have no bit
zeros : (n k : ℕ) → ◌≡◌ {A = ℕ} (get_or (replicate n 0) k 0) 0
zeros n k =
    ⊎_elim (λ (l : k < n). get_or-replicate n k 0 0 l)
    (λ (l : n ≤ k). let e = length-replicate {A = ℕ} n 0 in get_or_past (replicate n 0) k 0 (omega arith)) (cases_lt k n)

clear_row : (n t : ℕ) → bit_in (replicate n 0) t ≡ false
unfolding bit_of
clear_row n t =
    ap (λ (w : ℕ). eqb (w / 2 ^ (t % 64) % 2) 1) (zeros n (t / 64)) ∙ ap (λ (w : ℕ). eqb (w % 2) 1) (zero-div (2 ^ (t % 64)))

pub cleared : (n : ℕ) (rows : List (List ℕ)) → rows ≡ replicate n (replicate 4 0) → (r t : ℕ) → bit_at rows r t ≡ false
cleared n rows e r t =
    ap (λ (xs : List (List ℕ)). bit_at xs r t) e
    ∙ ⊎_elim
    (λ (l : r < n). ap (λ (xs : List ℕ). bit_in xs t) (get_or-replicate n r (replicate 4 0) [] l) ∙ clear_row 4 t)
    (λ (l : n ≤ r).
    let m = length-replicate {A = List ℕ} n (replicate 4 0) in
    ap (λ (xs : List ℕ). bit_in xs t) (get_or_past (replicate n (replicate 4 0)) r [] (omega arith)) ∙ clear_row 0 t)
    (cases_lt r n)
