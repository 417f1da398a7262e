-- What is first, largest, least or the first of the best is one thing alone; a book is what its lists hold at their places.
use Rattle.std.proofs.Common.{◌≡◌, ℕ, ◌<◌, ◌≤◌, Bool, true, List, length, get_or, ℤ, pos, ◌⊎◌, sym, refl, ◌∙◌, inl, inr, ⊎_elim, arith}
use Rattle.std.proofs.lemmas.Bool.{cases_eq, cases_lt}
use Rattle.std.proofs.lemmas.List.{ext_get_or}
use Rattle.horizon.specs.Ring.{lin}
use Rattle.components.specs.Nodes.{nodes, components}
use Rattle.rules.specs.Choosing.{largest, smallest, at, at_z}
use Rattle.rules.specs.Setting.{Setting}
use Rattle.rules.specs.Book.{Book, exit_at}
use Rattle.rules.specs.Refine.{Refined}
use Rattle.rules.specs.Sweep.{Candidate, Swept}
use Rattle.rules.specs.Candidates.{Earlier, FirstBest}
use Rattle.rules.specs.Fit.{Lengths}
use Rattle.rules.specs.Meaning.{FirstWith, Largest, Smallest}
use Rattle.rules.proofs.Choosing.{largest_bound, largest_reached, smallest_bound, smallest_reached}
use Rattle.rules.specs.declared.exit.Exit.{Exit}
use Rattle.rules.specs.declared.exit.Exit.TheVariants.{Stay, Leave}

pub first_one : (n : ℕ) (P : ℕ → Type 0) (i j : ℕ) → FirstWith n P i → FirstWith n P j → i ≡ j
first_one n P i j x y =
    ⊎_elim
    (λ (l : i < j). absurd (y.first i l x.has))
    (λ (l : j ≤ i).
    ⊎_elim (λ (m : j < i). absurd (x.first j m y.has)) (λ (m : i ≤ j). omega arith) (cases_lt j i))
    (cases_lt i j)

pub largest_one : (n : ℕ) (p : ℕ → Bool) (f : ℕ → ℤ) (a b : ℤ) → Largest n p f a → Largest n p f b → a ≡ b
largest_one n p f a b x y =
    let i = x.attained in
    let j = y.attained in
    let e = i.3 in
    let g = j.3 in
    let u = x.bounds j.0 j.1 j.2 in
    let v = y.bounds i.0 i.1 i.2 in
    omega (arith, lin)

pub smallest_one : (n : ℕ) (p : ℕ → Bool) (f : ℕ → ℤ) (a b : ℤ) → Smallest n p f a → Smallest n p f b → a ≡ b
smallest_one n p f a b x y =
    let i = x.attained in
    let j = y.attained in
    let e = i.3 in
    let g = j.3 in
    let u = x.bounds j.0 j.1 j.2 in
    let v = y.bounds i.0 i.1 i.2 in
    omega (arith, lin)

-- where one number passes
module _ (n : ℕ) (p : ℕ → Bool) (f : ℕ → ℤ) (i : ℕ) (l : i < n) (e : p i ≡ true) where
  pub the_largest : Largest n p f (largest n p f)
  the_largest = record { bounds = largest_bound n p f; attained = largest_reached n p f i l e }

  pub the_smallest : Smallest n p f (smallest n p f)
  the_smallest = record { bounds = smallest_bound n p f; attained = smallest_reached n p f i l e }

-- one exit is earlier than the other, or they are the same
in_order : (e f : Exit) → Earlier e f ⊎ (Earlier f e ⊎ (e ≡ f))
in_order Stay Stay = inr (inr refl)
in_order Stay (Leave t d) = inl tt
in_order (Leave s c) Stay = inr (inl tt)
in_order (Leave s c) (Leave t d) =
    ⊎_elim
    (λ (q : s ≡ t).
    ⊎_elim
    (λ (r : c ≡ d). inr (inr (rw (q, r) refl)))
    (λ (r : c ≡ d → ⊥).
    ⊎_elim (λ (l : c < d). inl (inr (q, l))) (λ (l : d ≤ c). inr (inl (inr (sym q, omega arith)))) (cases_lt c d))
    (cases_eq c d))
    (λ (q : s ≡ t → ⊥). ⊎_elim (λ (l : s < t). inl (inl l)) (λ (l : t ≤ s). inr (inl (inl (omega arith)))) (cases_lt s t))
    (cases_eq s t)

module _ (C : Candidate → Type 0) (a b : Candidate) (x : FirstBest C a) (y : FirstBest C b) where
  same_value : a.value ≡ b.value
  same_value =
      let u = x.largest b y.candidate in
      let v = y.largest a x.candidate in
      omega (arith, lin)

  same_exit : a.exit ≡ b.exit
  same_exit =
      let q = same_value in
      ⊎_elim
      (λ (l : Earlier a.exit b.exit). let u = y.first a x.candidate l in absurd (let z : ⊥ = omega (arith, lin) in z))
      (λ (m : Earlier b.exit a.exit ⊎ (a.exit ≡ b.exit)).
      ⊎_elim
      (λ (l : Earlier b.exit a.exit). let u = x.first b y.candidate l in absurd (let z : ⊥ = omega (arith, lin) in z))
      (λ (e : a.exit ≡ b.exit). e)
      m)
      (in_order a.exit b.exit)

  pub best_one : a ≡ b
  best_one = λ i. record { value = same_value i; exit = same_exit i }

pub same_refined : (a b : Refined) → a.book ≡ b.book → a.made ≡ b.made → a ≡ b
same_refined a b p q = λ i. record { book = p i; made = q i }

pub same_swept : (a b : Swept) → a.book ≡ b.book → a.made ≡ b.made → a ≡ b
same_swept a b p q = λ i. record { book = p i; made = q i }

-- two books hold the same at each place
pub record SamePlaces (M : Setting) (A B : Book) : Type 0 where
  pub vector : (s : ℕ) → s < M.table.states → at A.vector s ≡ at B.vector s
  pub recorded : (s : ℕ) → s < M.table.states → at A.recorded s ≡ at B.recorded s
  pub lo : (k : ℕ) → k < components M.table → at_z A.lo k ≡ at_z B.lo k
  pub hi : (k : ℕ) → k < components M.table → at_z A.hi k ≡ at_z B.hi k
  pub x : (v : ℕ) → v < nodes M.table → at_z A.x v ≡ at_z B.x v
  pub y : (v : ℕ) → v < nodes M.table → at_z A.y v ≡ at_z B.y v
  pub plan : (v : ℕ) → v < nodes M.table → exit_at A.plan v ≡ exit_at B.plan v

same_list : {X : Type 0} (d : X) (n : ℕ) (xs ys : List X) → length xs ≡ n → length ys ≡ n
    → ((i : ℕ) → i < n → get_or xs i d ≡ get_or ys i d) → xs ≡ ys
same_list d n xs ys p q f = ext_get_or d xs ys (p ∙ sym q) (λ i l. f i (omega arith))

pub same_book : (M : Setting) (A B : Book) → Lengths M A → Lengths M B → SamePlaces M A B → A ≡ B
same_book M A B P Q w =
    λ i. record {
      vector = same_list 0 M.table.states A.vector B.vector P.vector Q.vector w.vector i;
      recorded = same_list 0 M.table.states A.recorded B.recorded P.recorded Q.recorded w.recorded i;
      lo = same_list (pos 0) (components M.table) A.lo B.lo P.lo Q.lo w.lo i;
      hi = same_list (pos 0) (components M.table) A.hi B.hi P.hi Q.hi w.hi i;
      x = same_list (pos 0) (nodes M.table) A.x B.x P.x Q.x w.x i;
      y = same_list (pos 0) (nodes M.table) A.y B.y P.y Q.y w.y i;
      plan = same_list Stay (nodes M.table) A.plan B.plan P.plan Q.plan w.plan i;
    }
