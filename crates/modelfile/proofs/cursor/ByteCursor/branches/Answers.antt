use Rattle.std.proofs.Common.{◌≡◌, ℕ, ◌+◌, ◌-◌, ◌*◌, ◌/◌, List, length, take, drop, Ok, Err, sym, ap, ◌∙◌, arith}
use Rattle.std.proofs.lemmas.List.{length-take, length-drop}
use Rattle.std.proofs.lemmas.Result.{err_from_is_err_and}
use Rattle.modelfile.specs.Bytes.{number, branch, branch_run, branch_list, branches_in}
use Rattle.modelfile.specs.Reading.{moved}
use Rattle.modelfile.specs.declared.fault.ByteFault.{ByteFault}
use Rattle.modelfile.proofs.Fields.{then_ok, run_ok, run_err, list_cut}
use Rattle.modelfile.proofs.cursor.ByteCursor.branches.Goals as goal

pub returns-in_err-branch : goal.returns-in_err-branch
returns-in_err-branch c =
    let file : List ℕ = c.args.self.now.file.now in
    let k : ℕ = c.in_ok-count.count in
    let first : ℕ = c.number.new.self.at in
    let long : length c.loop.self.file.now ≡ length file = ap (λ (f : List ℕ). length f) c.loop.invariant.0 in
    let e : ByteFault = c.in_err-branch.field-0.0 in
    let p = err_from_is_err_and c.from_residual-in_err-branch.result c.from_residual-in_err-branch.ensures.1 in
    let head : number 1 file c.args.self.now.at ≡ Ok (k, first) = sym c.in_ok-count.ensures.1 in
    let here : branch c.loop.self.file.now c.loop.self.at ≡ Err e = sym c.in_err-branch.ensures.1 in
    let at : branch file (first + 6 * c.loop.counter) ≡ Err e =
    ap (λ (q : ℕ). branch file q) (sym c.loop.invariant.1) ∙ ap (λ (f : List ℕ). branch f c.loop.self.at) (sym c.loop.invariant.0) ∙ here in
    let failed : branch_run k file first ≡ Err e = run_err file k c.loop.counter first e (omega arith) (omega arith) at in (
      c.in_err-branch.ensures.0 ∙ c.loop.invariant.0,
      ap (λ r. moved branches_in r c.branch-self.new.self.at) p.1 ∙ ap Err p.2 ∙ sym (then_ok (λ n. branch_run n.0 file n.1) head ∙ failed),
    )

pub returns : goal.returns
returns c =
    let file : List ℕ = c.args.self.now.file.now in
    let k : ℕ = c.in_ok-count.count in
    let first : ℕ = c.number.new.self.at in
    let whole_file : length c.loop.self.file.now ≡ length file = ap (λ (f : List ℕ). length f) c.loop.invariant.0 in
    let next : ℕ = c.loop.self.at in
    let head : number 1 file c.args.self.now.at ≡ Ok (k, first) = sym c.in_ok-count.ensures.1 in
    let all : next ≡ first + 6 * k = omega arith in
    let whole : branch_run k file first ≡ Ok (branch_list k (drop first file), next) =
    run_ok file k first (omega arith) ∙ ap (λ (q : ℕ). Ok (branch_list k (drop first file), q)) (sym all) in
    let long : length (take (next - first) (drop first file)) / 6 ≡ k = simp (length-take, length-drop) (omega arith) in
    let same : branch_list (length (take (next - first) (drop first file)) / 6) (take (next - first) (drop first file)) ≡ branch_list k (drop first file) =
    ap (λ (n : ℕ). branch_list n (take (next - first) (drop first file))) long ∙ list_cut k (next - first) (drop first file) (omega arith) in
    let held : branch_list (length (take (next - first) (drop first c.loop.self.file.now)) / 6) (take (next - first) (drop first c.loop.self.file.now)) ≡ branch_list k (drop first file) =
    ap (λ (f : List ℕ). branch_list (length (take (next - first) (drop first f)) / 6) (take (next - first) (drop first f))) c.loop.invariant.0 ∙ same in (
      c.loop.invariant.0,
      ap (λ (bs : List (ℕ × ℕ)). Ok (bs, next)) held ∙ sym (then_ok (λ n. branch_run n.0 file n.1) head ∙ whole),
    )
