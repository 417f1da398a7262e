use Rattle.std.proofs.Common.{◌≡◌, ℕ, ◌+◌, ◌/◌, List, [], length, map, drop, set, sym, ap, ◌∙◌, arith}
use Rattle.std.proofs.lemmas.List.{drop_all}
use Rattle.modelfile.specs.Bytes.{branch_of}
use Rattle.modelfile.specs.Filling.{fill}
use Rattle.modelfile.proofs.Fills.{fill_more, chunk_branches, list_long}
use Rattle.modelfile.proofs.fill.put_branches.Goals as goal

pub loop-i-preserved : goal.loop-i-preserved
loop-i-preserved c =
    let runs : List (List ℕ) = c.as_chunks.result.0.now in
    let i : ℕ = c.loop-i.i in
    let first : ℕ = c.args.first in
    ap (λ (l : List (ℕ × ℕ)). fill (map branch_of (drop (i + 1) runs)) (first + (i + 1)) l) (c.put.ensures ∙ ap (set c.loop-i.list (first + i)) c.branch_in.ensures)
    ∙ fill_more branch_of runs _ i first c.loop-i.list (omega arith)
    ∙ c.loop-i.invariant

pub overflow_cast-result : goal.overflow_cast-result
overflow_cast-result c = let k = list_long (length c.args.bytes.now / 6) c.args.bytes.now in omega (arith, c.as_chunks.ensures.front_len)

pub returns-clause-count : goal.returns-clause-count
returns-clause-count c = c.as_chunks.ensures.front_len ∙ sym (list_long (length c.args.bytes.now / 6) c.args.bytes.now)

pub returns-clause-list : goal.returns-clause-list
returns-clause-list c =
    let bytes : List ℕ = c.args.bytes.now in
    let runs : List (List ℕ) = c.as_chunks.result.0.now in
    let i : ℕ = c.loop-i.i in
    let none : drop i runs ≡ [] = drop_all i runs (omega arith) in
    ap (λ (l : List (List ℕ)). fill (map branch_of l) (c.args.first + i) c.loop-i.list) (sym none) ∙ c.loop-i.invariant
    ∙ ap (λ (l : List (List ℕ)). fill (map branch_of l) c.args.first c.args.list.now) c.as_chunks.ensures.front
    ∙ ap (λ (l : List (ℕ × ℕ)). fill l c.args.first c.args.list.now) (chunk_branches (length bytes / 6) bytes)
