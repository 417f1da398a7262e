use Rattle.std.proofs.Common.{ℕ, ◌<◌, List, [], ◌∷◌, ◌++◌, length, map, sym, ap, ◌∙◌, arith}
use Rattle.std.specs.List.{range_with_len}
use Rattle.std.proofs.lemmas.List.{take_more_set, length-set}
use Rattle.std.proofs.lemmas.List.FromFn.{map-range_with_len_more}
use Rattle.table.specs.Table.{Table}
use Rattle.model.proofs.copy.copy_branches.Goals as goal

pub loop-branch-preserved : goal.loop-branch-preserved
loop-branch-preserved g c =
    let T : Table = g.S.Source.table c.args.source.now in
    let b = c.loop-branch.branch in
    let f : ℕ → ℕ × ℕ = T.branch c.args.state c.args.choice in
    let n = c.loop-branch.invariant.1 in
    let few = c.requires.few in
    let count = c.branches-count.ensures in
    let h : b < length c.loop-branch.run = omega (arith, n, few, count, c.loop-branch-test.true) in (
      take_more_set c.loop-branch.run b c.branch-run.result h
          ∙ ap (λ (xs : List (ℕ × ℕ)). xs ++ (c.branch-run.result ∷ [])) c.loop-branch.invariant.0
          ∙ ap (λ (x : ℕ × ℕ). map f (range_with_len 0 b) ++ (x ∷ [])) c.branch-run.ensures
          ∙ sym (map-range_with_len_more f 0 b b (omega arith)),
      length-set c.loop-branch.run b c.branch-run.result ∙ n,
    )
