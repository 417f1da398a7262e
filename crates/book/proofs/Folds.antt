-- Folds in general.
use Rattle.std.proofs.Common.{◌≡◌, ℕ, zero, suc, ◌+◌, Bool, true, false, cond, List, [], ◌∷◌, ◌++◌, fold, filter, ap, ◌∙◌, arith}
use Rattle.std.specs.List.{range_with_len}
use Rattle.std.proofs.lemmas.List.{append-nil}
use Rattle.std.proofs.lemmas.List.Sums.{fold_push}
use Rattle.std.proofs.lemmas.List.Elements.{filter-append}

-- counting to one more ends with the last number
pub counting_last : (a n j : ℕ) → a + n ≡ j → range_with_len a (suc n) ≡ range_with_len a n ++ (j ∷ [])
counting_last a zero j e = let same : a ≡ j = omega arith in ap (λ (k : ℕ). k ∷ []) same
counting_last a (suc n) j e = ap (λ (l : List ℕ). a ∷ l) (counting_last (a + 1) n j (omega arith))

module _ {A : Type 0} (step : A → ℕ → A) (a : A) where
  -- a fold over a list with one more number, or without
  fold_if : (b : Bool) (xs : List ℕ) (n : ℕ) → fold step a (xs ++ cond b (n ∷ []) []) ≡ cond b (step (fold step a xs) n) (fold step a xs)
  fold_if true xs n = fold_push step a xs n
  fold_if false xs n = ap (λ (l : List ℕ). fold step a l) (append-nil xs)

  -- the fold over the kept numbers below one more
  pub fold_kept_more : (p : ℕ → Bool) (n : ℕ)
      → fold step a (filter p (range_with_len 0 (suc n)))
      ≡ cond (p n) (step (fold step a (filter p (range_with_len 0 n))) n) (fold step a (filter p (range_with_len 0 n)))
  fold_kept_more p n =
      ap (λ (l : List ℕ). fold step a (filter p l)) (counting_last 0 n n (omega arith))
      ∙ ap (λ (l : List ℕ). fold step a l) (filter-append p (range_with_len 0 n) (n ∷ []))
      ∙ fold_if (p n) (filter p (range_with_len 0 n)) n
