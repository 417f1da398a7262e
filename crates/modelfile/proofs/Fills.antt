-- Filling a list: one row more, and the branches of a run of bytes.
use Rattle.std.proofs.Common.{◌≡◌, ℕ, zero, suc, ◌+◌, ◌<◌, List, ◌∷◌, length, map, take, drop, get_or, set, sym, refl, ap, ◌∙◌, arith}
use Rattle.std.proofs.lemmas.List.{drop_more}
use Rattle.std.specs.Simd.{first_chunks}
use Rattle.modelfile.specs.Bytes.{branch_of, branch_list}
use Rattle.modelfile.specs.Filling.{fill}

pub fill_more : {X Y : Type 0} (f : X → Y) (xs : List X) (d : X) (i first : ℕ) (list : List Y) → i < length xs
    → fill (map f (drop (i + 1) xs)) (first + (i + 1)) (set list (first + i) (f (get_or xs i d))) ≡ fill (map f (drop i xs)) (first + i) list
fill_more f xs d i first list h =
    let s : first + (i + 1) ≡ suc (first + i) = omega arith in
    ap (λ (at : ℕ). fill (map f (drop (i + 1) xs)) at (set list (first + i) (f (get_or xs i d)))) s
    ∙ sym (ap (λ (l : List _). fill (map f l) (first + i) list) (drop_more xs i d h))

-- the branches that bytes hold, from their parts of 6 bytes
pub chunk_branches : (k : ℕ) (bytes : List ℕ) → map branch_of (first_chunks 6 k bytes) ≡ branch_list k bytes
chunk_branches zero bytes = refl
chunk_branches (suc k) bytes =
    ap (λ bs. branch_of (take 6 bytes) ∷ bs) (chunk_branches k (drop 6 bytes))

pub list_long : (k : ℕ) (bytes : List ℕ) → length (branch_list k bytes) ≡ k
list_long zero bytes = refl
list_long (suc k) bytes = ap suc (list_long k (drop 6 bytes))
