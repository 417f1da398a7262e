-- What a list made by its places, or changed at one place, holds
use Rattle.std.proofs.Common.{◌≡◌, ℕ, ◌<◌, List, length, get_or, set, ap, ◌∙◌, arith}
use Rattle.std.proofs.lemmas.List.{get_or-set_same}
use Rattle.std.proofs.lemmas.List.FromFn.{get_or-map-range_with_len, length-map-range_with_len}
use Rattle.rules.specs.Choosing.{tabulate}

pub tabulate_at : {X : Type 0} (n : ℕ) (f : ℕ → X) (i : ℕ) (d : X) → i < n → get_or (tabulate n f) i d ≡ f i
tabulate_at n f i d h = get_or-map-range_with_len f 0 n i i d h (omega arith)

pub tabulate_length : {X : Type 0} (n : ℕ) (f : ℕ → X) → length (tabulate n f) ≡ n
tabulate_length n f = length-map-range_with_len f 0 n

pub set_here : {X : Type 0} (xs : List X) (i j : ℕ) (a d : X) → i ≡ j → j < length xs → get_or (set xs j a) i d ≡ a
set_here xs i j a d e h = ap (λ (k : ℕ). get_or (set xs j a) k d) e ∙ get_or-set_same xs j a d h
