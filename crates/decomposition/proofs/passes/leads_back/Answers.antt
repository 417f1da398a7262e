use Rattle.std.proofs.Common.{◌≡◌, ℕ, ◌<◌, Bool, List, length, get_or, sym, ap, ◌∙◌, arith, rules, tests}
use Rattle.std.proofs.lemmas.List.{get_or_default}
use Rattle.std.proofs.lemmas.Iterator.{YieldsList-from_slice}
use Rattle.std.proofs.lemmas.Iterator.Adapters.{serves_from_places}
use Rattle.std.proofs.lemmas.Iterator.Search.{all_from_yields_List}
use Rattle.table.specs.Table.{Table, successor}
use Rattle.model.specs.Held.{table_of}
use Rattle.model.proofs.Unbroken.{model_lawful}
use Rattle.decomposition.specs.Bits.{bit_at}
use Rattle.decomposition.proofs.Searches.{every_listed, every_ext}
use Rattle.decomposition.proofs.passes.leads_back.Goals as goal

pub all-requires-clause-callable : goal.all-requires-clause-callable
all-requires-clause-callable c =
    let T : Table = table_of c.args.model.now in
    let law = model_lawful c.args.model.now in
    let s : ℕ = c.args.state in
    let d : ℕ = c.args.choice in
    let few = law.states.1 in
    let here = c.requires.state in
    let low : s < 256 = omega arith in
    let run : List (ℕ × ℕ) = c.branches_of.result.now in
    let small : (x : ℕ × ℕ) (k : ℕ) → k < length run → x ≡ get_or run k x → x.0 < 256 =
    λ x k h e. (let u = law.successors s d k here c.requires.choice (omega (arith, c.branches_of.ensures.count)) in
    let q = ap (λ (y : ℕ × ℕ). y.0) (e ∙ get_or_default run k x (0, 0) h ∙ c.branches_of.ensures.each k) in omega arith) in
    serves_from_places (YieldsList-from_slice run cc) (λ x q r. search (rules, tests))
    (λ x k h e. let p = small x.now k h e in let l = low in search rules)

pub returns : goal.returns
returns c =
    let T : Table = table_of c.args.model.now in
    let s : ℕ = c.args.state in
    let run : List (ℕ × ℕ) = c.branches_of.result.now in
    let test : ℕ × ℕ → Bool = λ x. bit_at c.args.square.now.rows.items x.0 s in
    all_from_yields_List test _ _ c.all.result c.all.ensures.ran (YieldsList-from_slice run cc) (λ x b q k. search (rules, tests))
    ∙ every_listed test run (0, 0) (T.branches s c.args.choice) (sym c.branches_of.ensures.count)
    ∙ every_ext (T.branches s c.args.choice) (λ b. test (get_or run b (0, 0))) (λ b. bit_at c.args.square.now.rows.items (successor T s c.args.choice b) s)
    (λ b l. ap test (c.branches_of.ensures.each b))
