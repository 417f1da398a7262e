use Rattle.std.proofs.Common.{vec_items, arith}
use Rattle.samples.proofs.Added.{branches_more}
use Rattle.samples.proofs.tables.add_branches.Goals as goal

pub loop-place-preserved : goal.loop-place-preserved
loop-place-preserved g c = record {
  items = λ f gives.
      branches_more f c.loop-place.place c.branch.result (vec_items c.args.branches.now) (vec_items c.loop-place.branches) (vec_items c.push.new.self)
      (c.loop-place.invariant.items f gives) c.in_ok-push.ensures.items
      (gives c.loop-place.place c.branch.result (omega arith) c.branch.ensures);
  long = omega (arith, c.loop-place.invariant.long, c.in_ok-push.ensures.len);
}
