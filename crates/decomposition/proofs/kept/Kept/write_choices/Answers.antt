use Rattle.std.proofs.Common.{◌≡◌, ℕ, ◌+◌, ◌-◌, ◌*◌, Bool, false, List, ◌++◌, take, drop, replicate, vec_items, ap, ◌∙◌, ap₂, arith}
use Rattle.std.specs.List.{slice_range}
use Rattle.std.proofs.lemmas.List.{length-drop, length-take-le}
use Rattle.table.specs.Table.{Table}
use Rattle.model.specs.Held.{table_of}
use Rattle.model.proofs.Unbroken.{model_lawful}
use Rattle.model.proofs.Pushes.{pushed}
use Rattle.decomposition.proofs.Decomposing.{own_more}
use Rattle.decomposition.proofs.kept.Kept.write_choices.Goals as goal

pub slice_bounds-of_state-end : goal.slice_bounds-of_state-end
slice_bounds-of_state-end c =
    let law = model_lawful c.args.model.now in
    let few = (law.choices c.loop-state.state (omega arith)).1 in
    let most = law.states.1 in
    let size = c.args.self.now.size in
    omega arith

pub unwrap-requires : goal.unwrap-requires
unwrap-requires c =
    let law = model_lawful c.args.model.now in
    let few = (law.choices c.loop-state.state (omega arith)).1 in
    let most = law.states.1 in
    let size = c.args.self.now.size in
    let own = c.loop-state.invariant.0.size in
    let held = c.loop-state.flags.ok.0 in
    let rest = length-drop c.place-first.result c.deref.result.now in
    let part = length-take-le (c.place-end.result - c.place-first.result) (drop c.place-first.result c.deref.result.now) (omega arith) in
    c.extend_from_slice.ensures.succeeds (omega arith)

pub unwrap-requires-in-loop-state : goal.unwrap-requires-in-loop-state
unwrap-requires-in-loop-state c =
    let most = (model_lawful c.args.model.now).states.1 in
    c.resize.ensures.succeeds (omega arith)

pub loop-state-preserved : goal.loop-state-preserved
loop-state-preserved c =
    let T : Table = table_of c.args.model.now in
    let k : ℕ = c.loop-state.state in
    let flags : List Bool = c.args.self.now.flags.items in
    let mid : List Bool = vec_items c.extend_from_slice.new.self in
    let law = model_lawful c.args.model.now in
    let few = (law.choices k (omega arith)).1 in
    let most = law.states.1 in
    let size = c.args.self.now.size in
    let first : c.place-first.result ≡ 16 * k = omega arith in
    let end : c.place-end.result ≡ 16 * k + T.choices k = omega arith in
    let next : c.place.result ≡ 16 * (k + 1) = omega arith in (
      own_more T k flags (vec_items c.loop-state.flags) _ mid (vec_items c.resize.new.self) few (omega arith) c.loop-state.invariant.0
          (ap (λ (xs : List Bool). slice_range xs c.place-first.result c.place-end.result) c.deref.ensures.value ∙ ap₂ (slice_range flags) first end)
          (pushed c.extend_from_slice.result c.unwrap.result (vec_items c.loop-state.flags) _ _ c.unwrap.ensures c.extend_from_slice.ensures.items)
          (pushed c.resize.result c.unwrap-in-loop-state.result mid _ _ c.unwrap-in-loop-state.ensures c.resize.ensures.items
          ∙ ap₂ (λ (i l : ℕ). take i mid ++ replicate (i - l) false) next c.extend_from_slice.new.self.ok.0),
      omega arith,
    )
