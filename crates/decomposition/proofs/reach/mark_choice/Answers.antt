use Rattle.std.proofs.Common.{◌≡◌, ℕ, ◌<◌, eqb, ap, subst, arith}
use Rattle.table.specs.Table.{Table, successor}
use Rattle.components.specs.Below.{any}
use Rattle.model.specs.Held.{table_of}
use Rattle.model.proofs.Unbroken.{model_lawful}
use Rattle.decomposition.specs.Bits.{Marks}
use Rattle.decomposition.proofs.Marked.{branch_more}
use Rattle.decomposition.proofs.reach.mark_choice.Goals as goal

pub set-requires-clause-column : goal.set-requires-clause-column
set-requires-clause-column c =
    let T : Table = table_of c.args.model.now in
    let law = model_lawful c.args.model.now in
    let s : ℕ = c.args.state in
    let d : ℕ = c.args.choice in
    let b : ℕ = c.loop-successor.successor-index in
    let few = law.states.1 in
    let h : b < T.branches s d = omega (arith, c.branches_of-successor-items.ensures.count) in
    let u : successor T s d b < T.states = law.successors s d b c.requires.state c.requires.choice h in
    let q = ap (λ (x : ℕ × ℕ). x.0) (c.branches_of-successor-items.ensures.each b) in
    omega arith

pub loop-successor-preserved : goal.loop-successor-preserved
loop-successor-preserved c =
    branch_more (table_of c.args.model.now) c.args.state c.args.choice c.loop-successor.successor-index _
    c.args.square.now.rows.items c.loop-successor.square.rows.items c.set.new.self.rows.items c.loop-successor.invariant c.set.ensures
    (ap (λ (x : ℕ × ℕ). x.0) (c.branches_of-successor-items.ensures.each c.loop-successor.successor-index))

pub returns : goal.returns
returns c =
    let T : Table = table_of c.args.model.now in
    let s : ℕ = c.args.state in
    let d : ℕ = c.args.choice in
    let all : c.loop-successor.successor-index ≡ T.branches s d = omega (arith, c.branches_of-successor-items.ensures.count) in
    subst (λ (n : ℕ). Marks c.args.square.now.rows.items c.loop-successor.square.rows.items s (λ t. any n (λ b. eqb (successor T s d b) t)))
    all c.loop-successor.invariant
