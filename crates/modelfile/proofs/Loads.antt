-- From lists filled as far as they reach to the caller's lists.
use Rattle.std.proofs.Common.{◌≡◌, ℕ, suc, ◌≤◌, Bool, true, false, cond, ◌&&◌, leb, List, [], ◌∷◌, ◌++◌, length, drop, set, Ok, Err, Result, sym, refl, ap, ◌∙◌, arith}
use Rattle.std.proofs.lemmas.Bool.{and_parts, cond-true, cond-false, leb-true}
use Rattle.sources.specs.declared.list.StateRow.{StateRow}
use Rattle.sources.specs.declared.list.ChoiceRow.{ChoiceRow}
use Rattle.modelfile.specs.File.{Model, read_file}
use Rattle.modelfile.specs.Lists.{loaded_of, outcome, after_call}
use Rattle.modelfile.specs.Filling.{fill, Tally, filled, tallied}
use Rattle.modelfile.specs.declared.fault.FileFault.{FileFault}
use Rattle.modelfile.specs.declared.fault.FileFault.TheVariants.{ShortList}
use Rattle.modelfile.specs.declared.loaded.Loaded.{Loaded}
use Rattle.modelfile.proofs.Fields.{ok_same, then_ok}
use Rattle.modelfile.proofs.Inverse.{err_ok}

fill_behind : {X : Type 0} (xs : List X) (at : ℕ) (y : X) (list : List X) → fill xs (suc at) (y ∷ list) ≡ y ∷ fill xs at list
fill_behind [] at y list = refl
fill_behind (x ∷ xs) at y list = fill_behind xs (suc at) y (set list at x)

-- rows for which a list has a place stand at its front
fill_front : {X : Type 0} (xs list : List X) → length xs ≤ length list → fill xs 0 list ≡ xs ++ drop (length xs) list
fill_front [] list h = refl
fill_front (x ∷ xs) [] h = absurd (omega arith)
fill_front (x ∷ xs) (y ∷ list) h = fill_behind xs 0 x list ∙ ap (λ (l : List _). x ∷ l) (fill_front xs list (omega arith))

module _ (S : List StateRow) (C : List ChoiceRow) (B : List (ℕ × ℕ)) where
  pub filled_ok : (m : Result Model FileFault) (t : Tally) → ◌≡◌ {A = Result Tally FileFault} (Ok t) (filled m S C B)
      → (v : Model) × (m ≡ Ok v) × (t.counts ≡ loaded_of v)
  filled_ok (Ok m) t h = (m, refl, ap (λ (t : Tally). t.counts) (ok_same h))
  filled_ok (Err x) t h = absurd (err_ok (sym h))

pub tallied_ok : (r : Result Loaded FileFault) (S : List StateRow) (C : List ChoiceRow) (B : List (ℕ × ℕ)) (t : Tally)
    → ◌≡◌ {A = Result Tally FileFault} (tallied r S C B) (Ok t) → (r ≡ Ok t.counts) × (S ≡ t.states) × (C ≡ t.choices) × (B ≡ t.branches)
tallied_ok (Ok c) S C B t h =
    let e = ok_same h in
    (ap (λ (t : Tally). Ok t.counts) e, ap (λ (t : Tally). t.states) e, ap (λ (t : Tally). t.choices) e, ap (λ (t : Tally). t.branches) e)
tallied_ok (Err x) S C B t h = absurd (err_ok h)

module _ (file : List ℕ) (s c b : ℕ) where
  abbrev pub roomy : Loaded → Bool
  roomy t = leb t.states s && leb t.choices c && leb t.branches b

  outcome_is : (m : Model) → read_file file ≡ Ok m → outcome file s c b ≡ cond (roomy (loaded_of m)) (Ok m) (Err ShortList)
  outcome_is m h = then_ok (λ m. cond (roomy (loaded_of m)) (Ok m) (Err ShortList)) h

  pub outcome_short : (m : Model) → read_file file ≡ Ok m → roomy (loaded_of m) ≡ false → outcome file s c b ≡ Err ShortList
  outcome_short m h q = outcome_is m h ∙ cond-false (roomy (loaded_of m)) (Ok m) (Err ShortList) q

  pub outcome_ok : (m : Model) → read_file file ≡ Ok m → roomy (loaded_of m) ≡ true → outcome file s c b ≡ Ok m
  outcome_ok m h q = outcome_is m h ∙ cond-true (roomy (loaded_of m)) (Ok m) (Err ShortList) q

-- a list that is filled with the rows of an accepted file
pub after_front : {X : Type 0} (rows : Model → List X) {o : Result Model FileFault} {m : Model} {list was new : List X}
    → o ≡ Ok m → list ≡ was → length (rows m) ≤ length list → new ≡ fill (rows m) 0 list → new ≡ after_call o rows was
after_front rows {o} {m} {list} {was} out same room filled =
    filled ∙ fill_front (rows m) list room ∙ ap (λ (l : List _). rows m ++ drop (length (rows m)) l) same
    ∙ sym (ap (λ (o : Result Model FileFault). after_call o rows was) out)

-- each list has a place for each of its rows
pub room : (a b d s c e : ℕ) → (leb a s && leb b c && leb d e) ≡ true → (a ≤ s) × (b ≤ c) × (d ≤ e)
room a b d s c e h =
    let p = and_parts (leb a s && leb b c) (leb d e) h in
    let q = and_parts (leb a s) (leb b c) p.0 in
    (leb-true a s q.0, leb-true b c q.1, leb-true d e p.1)
