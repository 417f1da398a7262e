use Rattle.std.proofs.Common.{ℕ, ◌+◌, List, refl, sym, ◌∙◌, subst, arith}
use Rattle.std.proofs.lemmas.List.{with_items_is}
use Rattle.decomposition.specs.Bits.{bit_at}
use Rattle.decomposition.specs.Marking.{Shows, closure}
use Rattle.decomposition.proofs.Marked.{closing_more}
use Rattle.decomposition.proofs.bits.Square.close.Goals as goal

pub loop-middle-init : goal.loop-middle-init
unfolding closure
loop-middle-init c = λ s t h k. refl

pub loop-middle-preserved : goal.loop-middle-preserved
loop-middle-preserved c =
    let n : ℕ = c.args.states in
    let start : List (List ℕ) = c.args.self.now.rows.items in
    let k : ℕ = c.loop-middle.middle in
    let new : List (List ℕ) = c.close_through.new.rows in
    let whole = with_items_is c.loop-middle.self.rows new (c.close_through.ensures.size ∙ c.deref_mut.ensures.len) in
    subst (λ xs. Shows n xs (closure (bit_at start) (k + 1))) (sym whole)
    (closing_more n c.loop-middle.self.rows.items new (bit_at start) k (omega arith) c.loop-middle.invariant
    (rw c.deref_mut.ensures.value at c.close_through.ensures.ways))
