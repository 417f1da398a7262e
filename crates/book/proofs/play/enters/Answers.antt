use Rattle.std.proofs.Common.{◌≡◌, ℕ, zero, suc, ◌+◌, ◌<◌, ◌≤◌, Bool, ◌||◌, List, length, get_or, take, sym, refl, ap, ◌∙◌, arith, rules, tests}
use Rattle.std.specs.List.{list_any}
use Rattle.std.proofs.lemmas.List.{get_or_default, take_all}
use Rattle.std.proofs.lemmas.List.Folds.{list_any_more}
use Rattle.std.proofs.lemmas.Iterator.{YieldsList-from_slice}
use Rattle.std.proofs.lemmas.Iterator.Adapters.{serves_from_places}
use Rattle.std.proofs.lemmas.Iterator.Search.{any_from_yields_List}
use Rattle.components.specs.Below.{any}
use Rattle.book.specs.Plays.{has_mark}
use Rattle.book.specs.RunSums.{place_at}
use Rattle.book.proofs.play.enters.Goals as goal

-- a test of the first n elements, place by place
any_below : {X : Type 0} (test : X → Bool) (xs : List X) (d : X) (n : ℕ) → n ≤ length xs → list_any test (take n xs) ≡ any n (λ b. test (get_or xs b d))
any_below test xs d zero h = refl
any_below test xs d (suc n) h =
    let q : suc n ≡ n + 1 = omega arith in
    ap (λ (i : ℕ). list_any test (take i xs)) q ∙ list_any_more test xs n d (omega arith)
    ∙ ap (λ (b : Bool). b || test (get_or xs n d)) (any_below test xs d n (omega arith))

-- each place of the run is one of the marks
marked : (run : List (ℕ × ℕ)) (size : ℕ) → ((b : ℕ) → b < length run → place_at run b < size)
    → (x : ℕ × ℕ) (k : ℕ) → k < length run → x ≡ get_or run k x → x.0 < size
marked run size inside x k h e =
    let p = inside k h in
    let q : x.0 ≡ place_at run k = ap (λ (y : ℕ × ℕ). y.0) (e ∙ get_or_default run k x (0, 0) h) in
    omega arith

pub any-requires-clause-callable : goal.any-requires-clause-callable
any-requires-clause-callable c =
    serves_from_places (YieldsList-from_slice c.args.run.now cc) (λ x q r. search (rules, tests))
    (λ x k h e. let p = marked c.args.run.now (length c.args.distances.now) c.requires.inside x.now k h e in search rules)

pub returns : goal.returns
returns c =
    let run = c.args.run.now in
    let test : ℕ × ℕ → Bool = λ x. has_mark c.args.distances.now c.args.mark x.0 in
    any_from_yields_List test _ _ c.any.result c.any.ensures.ran
    (YieldsList-from_slice run cc) (λ x b q k. search (rules, tests))
    ∙ ap (list_any test) (sym (take_all (length run) run (omega arith)))
    ∙ any_below test run (0, 0) (length run) (omega arith)
