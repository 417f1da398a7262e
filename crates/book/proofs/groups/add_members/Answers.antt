use Rattle.std.proofs.Common.{◌≡◌, ℕ, ◌+◌, List, [], ◌∷◌, ◌++◌, length, cond, eqb, vec_items, vec_capacity, sym, ap, ◌∙◌, arith}
use Rattle.std.proofs.lemmas.List.{length-append, append_assoc, append-nil}
use Rattle.std.proofs.lemmas.Bool.{eq-eqb, ne_eqb}
use Rattle.decomposition.specs.Decomposed.{node_in}
use Rattle.book.specs.Grouped.{states_at}
use Rattle.model.proofs.Pushes.{pushed}
use Rattle.book.proofs.Grouped.{states_more, states_within}
use Rattle.book.proofs.groups.add_members.Goals as goal
use Rattle.book.proofs.groups.add_members.Goals.{then-node_of-node, else-node_of-node}

pub unwrap-requires : goal.unwrap-requires
unwrap-requires c =
    let node = node_in c.args.parts.now in
    let e : node c.loop-state.state ≡ c.args.node = omega (arith, c.node_of.ensures, c.if-node_of-node.true) in
    let w = states_within node c.args.node c.args.states c.loop-state.state (omega arith) e in
    let a = ap length c.loop-state.invariant.0 ∙ length-append (vec_items c.args.members.now) (states_at node c.loop-state.state c.args.node) in
    let o = c.loop-state.members.ok.0 in
    c.push.ensures.succeeds (omega arith)

pub loop-state-preserved : goal.loop-state-preserved
loop-state-preserved c =
    let node = node_in c.args.parts.now in
    let old = vec_items c.args.members.now in
    let s : ℕ = c.loop-state.state in
    let v : ℕ = c.args.node in
    let more : (b : List ℕ) → cond (eqb (node s) v) (s ∷ []) [] ≡ b → old ++ states_at node s v ++ b ≡ old ++ states_at node (s + 1) v =
    λ b e. append_assoc old (states_at node s v) b ∙ ap (λ xs. old ++ xs) (sym (states_more node s v ∙ ap (λ xs. states_at node s v ++ xs) e)) in
    elim c.if-node_of-node.branch [
      | then-node_of-node w ↦ (
        ap vec_items w.members-is
            ∙ pushed w.push.result w.unwrap.result (vec_items c.loop-state.members) _ _ w.unwrap.ensures w.push.ensures.items
            ∙ ap (λ (xs : List ℕ). xs ++ (s ∷ [])) c.loop-state.invariant.0
            ∙ more (s ∷ []) (ap (λ b. cond b (s ∷ []) []) (eq-eqb (node s) v (omega (arith, c.node_of.ensures, w.if-node_of-node.true)))),
        let q = ap (λ m. vec_capacity m) w.members-is in omega arith,
      )
      | else-node_of-node w ↦ (
        ap vec_items w.members-is ∙ c.loop-state.invariant.0
            ∙ sym (append-nil (old ++ states_at node s v))
            ∙ more [] (ap (λ b. cond b (s ∷ []) []) (ne_eqb (node s) v (λ e. omega (arith, c.node_of.ensures, w.if-node_of-node.false)))),
        let q = ap (λ m. vec_capacity m) w.members-is in omega arith,
      )
    ]
