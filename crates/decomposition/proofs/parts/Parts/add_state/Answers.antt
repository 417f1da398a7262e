use Rattle.std.proofs.Common.{◌≡◌, ℕ, ◌+◌, vec_items, sym, ap, ◌∙◌, arith}
use Rattle.std.proofs.lemmas.List.{get_or_default}
use Rattle.table.specs.Table.{Table}
use Rattle.components.specs.Nodes.{lowest}
use Rattle.components.proofs.Numbering.{lowest_le}
use Rattle.model.specs.Held.{table_of}
use Rattle.model.proofs.Unbroken.{model_lawful}
use Rattle.model.proofs.Pushes.{pushed}
use Rattle.decomposition.proofs.Numbers.{chosen, one_more, one_most, own_bit, low_shown, flags_shown, known_pushed, fresh_pushed, few}
use Rattle.decomposition.proofs.parts.Parts.add_state.Goals as goal

pub lowest_state-low-requires-clause-itself : goal.lowest_state-low-requires-clause-itself
lowest_state-low-requires-clause-itself c =
    own_bit (table_of c.args.apart.now.model.now) (model_lawful c.args.apart.now.model.now) c.args.apart.now.square.now.rows.items
    c.args.apart.now.reached c.args.state c.requires.within

pub returns-then-low-state : goal.returns-then-low-state
returns-then-low-state c =
    let T : Table = table_of c.args.apart.now.model.now in
    let low : c.lowest_state-low.result ≡ lowest T c.args.state =
    rw c.states.ensures.value at c.lowest_state-low.ensures
    ∙ low_shown T (model_lawful c.args.apart.now.model.now) c.args.apart.now.square.now.rows.items c.args.apart.now.reached c.args.state c.requires.within in
    known_pushed T (model_lawful c.args.apart.now.model.now) c.args.state (vec_items c.args.self.now.node) (vec_items c.args.self.now.component) c.args.self.now.components
    c.requires.within c.requires.so_far c.lowest_state-low.result _ (vec_items c.push.new.self) low c.if-low-state.true
    (let l = c.requires.so_far.size in let k = c.if-low-state.true in
    c.index-known.ensures ∙ get_or_default (vec_items c.args.self.now.node) c.lowest_state-low.result c.index-known.result.now 0 (omega arith))
    (pushed c.push.result c.unwrap.result (vec_items c.args.self.now.node) _ _ c.unwrap.ensures c.push.ensures.items)

pub unwrap-requires-2 : goal.unwrap-requires-2
unwrap-requires-2 c =
    let T : Table = table_of c.args.apart.now.model.now in
    let f = few T (model_lawful c.args.apart.now.model.now) c.args.state (vec_items c.args.self.now.node) (vec_items c.args.self.now.component) c.args.self.now.components c.requires.within c.requires.so_far in
    let m = (model_lawful c.args.apart.now.model.now).states.1 in
    let h = c.requires.within in
    let b = c.args.self.now.component.ok.0 in
    c.push-2.ensures.succeeds (omega arith)

pub overflow_add-self : goal.overflow_add-self
overflow_add-self c =
    let T : Table = table_of c.args.apart.now.model.now in
    let f = few T (model_lawful c.args.apart.now.model.now) c.args.state (vec_items c.args.self.now.node) (vec_items c.args.self.now.component) c.args.self.now.components c.requires.within c.requires.so_far in
    let m = (model_lawful c.args.apart.now.model.now).states.1 in
    let h = c.requires.within in
    let e = c.from.ensures in
    let b = one_most c.has_choice-inside.result in
    omega arith

pub invariant_of-self-2 : goal.invariant_of-self-2
invariant_of-self-2 c =
    let T : Table = table_of c.args.apart.now.model.now in
    let f = few T (model_lawful c.args.apart.now.model.now) c.args.state (vec_items c.args.self.now.node) (vec_items c.args.self.now.component) c.args.self.now.components c.requires.within c.requires.so_far in
    let m = (model_lawful c.args.apart.now.model.now).states.1 in
    let h = c.requires.within in
    let b = c.args.self.now.component.ok.0 in
    record { few = omega arith; inside_room = c.args.self.now.inside_room; node_room = omega arith; component_room = omega arith }

pub returns : goal.returns
returns c =
    let T : Table = table_of c.args.apart.now.model.now in
    let k : ℕ = c.args.state in
    let low : c.lowest_state-low.result ≡ lowest T k =
    rw c.states.ensures.value at c.lowest_state-low.ensures
    ∙ low_shown T (model_lawful c.args.apart.now.model.now) c.args.apart.now.square.now.rows.items c.args.apart.now.reached k c.requires.within in
    let most = lowest_le T (model_lawful c.args.apart.now.model.now) k c.requires.within in
    let itself : lowest T k ≡ k = omega (arith, c.if-low-state.false) in
    fresh_pushed T (model_lawful c.args.apart.now.model.now) k (vec_items c.args.self.now.node) (vec_items c.args.self.now.component) c.args.self.now.components
    c.requires.within c.requires.so_far c.len-number.result _ _ c.has_choice-inside.result
    _ _ itself
    (sym (flags_shown T (model_lawful c.args.apart.now.model.now) c.args.apart.now.kept.now.flags.items c.args.apart.now.kept_is k c.requires.within)
    ∙ sym c.has_choice-inside.ensures)
    (c.then_some.ensures ∙ chosen c.has_choice-inside.result c.args.self.now.components) (c.len-number.ensures ∙ c.args.self.now.component.ok.0)
    (pushed c.push-3.result c.unwrap-3.result (vec_items c.args.self.now.node) _ _ c.unwrap-3.ensures c.push-3.ensures.items)
    (pushed c.push-2.result c.unwrap-2.result (vec_items c.args.self.now.component) _ _ c.unwrap-2.ensures c.push-2.ensures.items)
    (ap (λ (n : ℕ). c.args.self.now.components + n) (c.from.ensures ∙ one_more c.has_choice-inside.result))
