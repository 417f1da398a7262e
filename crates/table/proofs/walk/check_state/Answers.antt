use Rattle.std.proofs.Common.{◌≡◌, ℕ, ◌<◌, [], ◌∷◌, ◌++◌, true, false, Ok, Err, sym, ◌∙◌, rules, arith}
use Rattle.table.specs.Table.{Table}
use Rattle.table.specs.Faults.{kept}
use Rattle.table.specs.Walk.{each, head_walk, branch_walk, choice_walk}
use Rattle.table.specs.declared.fault.Fault.{Fault}
use Rattle.table.specs.declared.fault.Fault.TheVariants.{Choices, Sum}
use Rattle.table.proofs.Walks.{checked, checked_past, checked_at, ok_then, err_then, ok_more, err_at, choice_past}
use Rattle.table.proofs.walk.check_state.Goals as goal

pub loop-branch-preserved : goal.loop-branch-preserved
loop-branch-preserved g c =
    ok_more (g.S.Source.table c.args.source.now) (branch_walk c.args.state c.loop-choice.choice) c.loop-branch.branch c.loop-branch.invariant (sym c.in_default-check_branch.ensures)

pub loop-choice-preserved : goal.loop-choice-preserved
loop-choice-preserved g c =
    let T : Table = g.S.Source.table c.args.source.now in
    let s = c.args.state in
    let i = c.loop-choice.choice in
    let end : c.loop-branch.branch ≡ T.branches s i = omega arith in
    let clear : checked T (each (T.branches s i) (branch_walk s i)) ≡ Ok tt = cc in
    let full : kept T (Sum s i) ≡ true = search rules in
    ok_more T (choice_walk T s) i c.loop-choice.invariant (choice_past T s i (sym c.in_default.ensures) clear ∙ checked_past T (Sum s i) [] full)

module _ (T : Table) (s i : ℕ) (e : Fault) (few : kept T (Choices s) ≡ true) (l : i < T.choices s) (before : checked T (each i (choice_walk T s)) ≡ Ok tt) where
  -- the first choice with a broken limit decides about the state
  decides : checked T (choice_walk T s i) ≡ Err e → Err e ≡ checked T (Choices s ∷ each (T.choices s) (choice_walk T s))
  decides h = sym (checked_past T (Choices s) (each (T.choices s) (choice_walk T s)) few ∙ err_at T (choice_walk T s) i (T.choices s) e l before h)

pub returns-in-Err : goal.returns-in-Err
returns-in-Err g c =
    let T : Table = g.S.Source.table c.args.source.now in
    let s = c.args.state in
    let i = c.loop-choice.choice in
    let few : kept T (Choices s) ≡ true = search rules in
    decides T s i c.in-Err.fault few (omega arith) c.loop-choice.invariant
    (err_then T (head_walk s i) (each (T.branches s i) (branch_walk s i) ++ (Sum s i ∷ [])) c.in-Err.fault (sym c.in-Err.ensures))

pub returns-in-Err-check_branch : goal.returns-in-Err-check_branch
returns-in-Err-check_branch g c =
    let T : Table = g.S.Source.table c.args.source.now in
    let s = c.args.state in
    let i = c.loop-choice.choice in
    let e = c.in-Err-check_branch.fault in
    let branches = each (T.branches s i) (branch_walk s i) in
    let found = err_at T (branch_walk s i) c.loop-branch.branch (T.branches s i) e (omega arith) c.loop-branch.invariant (sym c.in-Err-check_branch.ensures) in
    let few : kept T (Choices s) ≡ true = search rules in
    decides T s i e few (omega arith) c.loop-choice.invariant
    (ok_then T (head_walk s i) (branches ++ (Sum s i ∷ [])) (sym c.in_default.ensures) ∙ err_then T branches (Sum s i ∷ []) e found)

pub returns-then-total_weight-from : goal.returns-then-total_weight-from
returns-then-total_weight-from g c =
    let T : Table = g.S.Source.table c.args.source.now in
    let s = c.args.state in
    let i = c.loop-choice.choice in
    let end : c.loop-branch.branch ≡ T.branches s i = omega arith in
    let clear : checked T (each (T.branches s i) (branch_walk s i)) ≡ Ok tt = cc in
    let broken : kept T (Sum s i) ≡ false = search rules in
    let few : kept T (Choices s) ≡ true = search rules in
    decides T s i (Sum s i) few (omega arith) c.loop-choice.invariant
    (choice_past T s i (sym c.in_default.ensures) clear ∙ checked_at T (Sum s i) [] broken)
