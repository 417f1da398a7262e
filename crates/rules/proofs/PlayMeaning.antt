-- What a state plays keeps the law of a play, and nothing else does; likewise the distance.
use Rattle.std.proofs.Common.{◌≡◌, ℕ, zero, suc, ◌<◌, Bool, ◌&&◌, eqb, sym, refl, ap, ◌∙◌, subst, ⊎_elim, arith}
use Rattle.std.proofs.lemmas.Bool.{cases_eq, both_ways, and_from, cond-true, cond-false, eq-eqb, ne_eqb}
use Rattle.table.specs.Table.{Table, successor}
use Rattle.table.specs.Limits.{Lawful}
use Rattle.components.specs.Inside.{inside}
use Rattle.components.specs.Nodes.{node_of}
use Rattle.components.proofs.Below.{first_none, any_from}
use Rattle.rules.specs.Setting.{Setting}
use Rattle.rules.specs.Book.{Book, exit_at}
use Rattle.rules.specs.Fit.{ExitFits, PlanFits}
use Rattle.rules.specs.Play.{enters, distance, toward, play}
use Rattle.rules.specs.Meaning.{TheOnly, FirstWith, InsideWalk, arrived, onward, DistanceLaw, LeadsNearer, PlayLaw}
use Rattle.rules.specs.declared.exit.Exit.{Exit}
use Rattle.rules.specs.declared.exit.Exit.TheVariants.{Stay, Leave}
use Rattle.rules.proofs.Nodes.{stays_node, node_number}
use Rattle.rules.proofs.Distances.{toward_nearer, distance_zero, distance_least}
use Rattle.rules.proofs.Plays.{play_by_exit}
use Rattle.rules.proofs.Same.{first_one}

module _ (T : Table) (L : Lawful T) (t : ℕ) (ht : t < T.states) where
  -- as many branches lead from s to t as the distance says
  walk_of : (d s : ℕ) → s < T.states → node_of T s ≡ node_of T t → distance T t s ≡ d → InsideWalk T t d s
  walk_of zero s hs e q =
      ⊎_elim
      (λ (z : s ≡ t). rw z arrived)
      (λ (n : s ≡ t → ⊥). let w = (toward_nearer T L t s ht hs e n).branch.2 in absurd (let z : ⊥ = omega arith in z))
      (cases_eq s t)
  walk_of (suc d) s hs e q =
      ⊎_elim
      (λ (z : s ≡ t). let w : distance T t s ≡ 0 = distance_zero T L t s z in absurd (let y : ⊥ = omega arith in y))
      (λ (n : s ≡ t → ⊥).
      let w = toward_nearer T L t s ht hs e n in
      let c = toward T t s in
      let b = w.branch.0 in
      let l = w.branch.1 in
      let r = w.branch.2 in
      onward c b w.inside_choice l
      (walk_of d (successor T s c b) (L.successors s c b hs w.choice l) (stays_node T L s c b w.inside_choice l ∙ e) (omega arith)))
      (cases_eq s t)

  pub the_distance : (s : ℕ) → s < T.states → node_of T s ≡ node_of T t → TheOnly (DistanceLaw T t s) (distance T t s)
  the_distance s hs e =
      let walk = walk_of (distance T t s) s hs e refl in
      record {
        has = record { walk = walk; least = λ k w. distance_least T L t k s w };
        only = λ d w.
            let a = w.least (distance T t s) walk in
            let b = distance_least T L t d s w.walk in
            omega arith;
      }

  before_toward : (s j : ℕ) → j < toward T t s → LeadsNearer T t s j → ⊥
  unfolding toward
  before_toward s j l w =
      let d : ℕ → ℕ = distance T t in
      let p : ℕ → Bool = λ c. inside T s c && enters T (λ u. eqb (suc (d u)) (d s)) s c in
      let x = w.1 in
      both_ways (p j) (first_none (T.choices s) p j l)
      (and_from (inside T s j) (enters T (λ u. eqb (suc (d u)) (d s)) s j) w.0
      (any_from (T.branches s j) (λ b. eqb (suc (d (successor T s j b))) (d s)) x.0 x.1
      (eq-eqb (suc (d (successor T s j x.0))) (d s) x.2)))

  -- toward t a state plays its first inside choice that leads nearer
  first_nearer : (s : ℕ) → s < T.states → node_of T s ≡ node_of T t → (s ≡ t → ⊥) → FirstWith (T.choices s) (LeadsNearer T t s) (toward T t s)
  first_nearer s hs e n =
      let w = toward_nearer T L t s ht hs e n in
      record { below = w.choice; has = (w.inside_choice, w.branch); first = before_toward s }

module _ (M : Setting) (L : Lawful M.table) (B : Book) (s : ℕ) (h : s < M.table.states) (fits : PlanFits M (exit_at B.plan)) where
  abbrev exit : Exit
  exit = exit_at B.plan (node_of M.table s)

  fits_here : (e : Exit) → exit ≡ e → ExitFits M (node_of M.table s) e
  fits_here e q = subst (ExitFits M (node_of M.table s)) q (fits (node_of M.table s) (node_number M.table L s h))

  play_law : PlayLaw M.table B s (play M.table B s)
  play_law = record {
    stays = λ q. play_by_exit M.table B s Stay q;
    leaves = λ d q. play_by_exit M.table B s (Leave s d) q ∙ cond-true (eqb s s) d (toward M.table s s) (eq-eqb s s refl);
    nears = λ t d q n.
        let f = fits_here (Leave t d) q in
        rw (play_by_exit M.table B s (Leave t d) q ∙ cond-false (eqb s t) d (toward M.table t s) (ne_eqb s t n))
        (first_nearer M.table L t f.0 s h (sym f.1) n);
  }

  -- two choices of which the law holds are the same
  same_play : (c d : ℕ) → PlayLaw M.table B s c → PlayLaw M.table B s d → c ≡ d
  same_play c d P Q = by exit refl
    where
      by : (e : Exit) → exit ≡ e → c ≡ d
      by Stay q = P.stays q ∙ sym (Q.stays q)
      by (Leave t k) q =
          ⊎_elim
          (λ (e : s ≡ t). let r : exit ≡ Leave s k = q ∙ ap (λ (u : ℕ). Leave u k) (sym e) in P.leaves k r ∙ sym (Q.leaves k r))
          (λ (n : s ≡ t → ⊥). first_one (M.table.choices s) (LeadsNearer M.table t s) c d (P.nears t k q n) (Q.nears t k q n))
          (cases_eq s t)

  pub the_play : TheOnly (PlayLaw M.table B s) (play M.table B s)
  the_play = record { has = play_law; only = λ c w. same_play c (play M.table B s) w play_law }
