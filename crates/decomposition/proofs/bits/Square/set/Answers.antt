use Rattle.std.proofs.Common.{◌≡◌, ℕ, ◌||◌, eqb, List, [], get_or, ap, ◌∙◌, arith}
use Rattle.std.proofs.lemmas.List.{get_or_default}
use Rattle.decomposition.specs.Bits.{bit_in}
use Rattle.decomposition.proofs.Words.{set-bit, row_marked}
use Rattle.decomposition.proofs.bits.Square.set.Goals as goal

pub returns : goal.returns
returns c =
    let rows : List (List ℕ) = c.args.self.now.rows.items in
    let row : List ℕ = c.index_mut.result.now in
    let k : ℕ = c.args.column in
    let size = c.args.self.now.size in
    let e : row ≡ get_or rows c.args.row [] = c.index_mut.ensures.value ∙ get_or_default rows c.args.row row [] (omega arith) in
    row_marked rows c.args.row _ (λ t. eqb t k) (omega arith)
    (λ t h. set-bit row k (omega arith) (omega arith) t h ∙ ap (λ (xs : List ℕ). bit_in xs t || eqb t k) e)
