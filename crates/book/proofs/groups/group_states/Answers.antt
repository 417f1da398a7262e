use Rattle.std.proofs.Common.{length, vec_items, ◌∙◌, ap, arith}
use Rattle.std.proofs.lemmas.List.{length-append}
use Rattle.decomposition.specs.Decomposed.{node_in}
use Rattle.book.specs.Grouped.{states_at}
use Rattle.model.proofs.Pushes.{pushed}
use Rattle.book.proofs.Grouped.{few_members, grouped_more}
use Rattle.book.proofs.groups.group_states.Goals as goal

pub add_members-requires : goal.add_members-requires
add_members-requires c =
    let few = few_members (node_in c.args.parts.now) c.args.states c.loop-node.node (vec_items c.loop-node.starts) (vec_items c.loop-node.members) c.loop-node.invariant.0 in
    record { room = let r = c.loop-node.invariant.1 in omega arith }

pub overflow_cast-len : goal.overflow_cast-len
overflow_cast-len c =
    let node = node_in c.args.parts.now in
    let few = few_members node c.args.states c.loop-node.node (vec_items c.loop-node.starts) (vec_items c.loop-node.members) c.loop-node.invariant.0 in
    let a = ap length c.add_members.ensures.added ∙ length-append (vec_items c.loop-node.members) (states_at node c.args.states c.loop-node.node) in
    let b = c.add_members.new.members.ok.0 in
    omega arith

pub loop-node-preserved : goal.loop-node-preserved
loop-node-preserved c = (
  grouped_more (node_in c.args.parts.now) c.args.states c.loop-node.node c.len.result (vec_items c.loop-node.starts) (vec_items c.push-in-loop-node.new.self)
      (vec_items c.loop-node.members) (vec_items c.add_members.new.members) c.loop-node.invariant.0
      c.add_members.ensures.added
      (pushed c.push-in-loop-node.result c.unwrap-in-loop-node.result (vec_items c.loop-node.starts) _ _ c.unwrap-in-loop-node.ensures c.push-in-loop-node.ensures.items)
      (c.len.ensures ∙ c.add_members.new.members.ok.0),
  omega arith,
  omega arith,
)
