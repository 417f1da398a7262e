use Rattle.std.proofs.Common.{ℕ, ◌≤◌, List, length, ◌∙◌, arith}
use Rattle.rules.specs.Setting.{Setting}
use Rattle.rules.specs.Sweep.{staying, best_of}
use Rattle.book.specs.SideBounds.{bounds_table, bounds_setting, upper_means, lower_means}
use Rattle.book.proofs.Exits.{member_all}
use Rattle.book.proofs.Members.{member_of}
use Rattle.book.proofs.side_bounds.SideBounds.best_exits.Goals as goal

pub best_choices-requires : goal.best_choices-requires
best_choices-requires c =
    (member_of (bounds_table c.args.self.now) c.args.node c.members_of-members.result.now c.members_of-members.ensures c.loop-state.state-index (omega arith)).0

pub returns : goal.returns
unfolding best_of
returns c =
    let bounds = c.args.self.now in
    let M : Setting = bounds_setting bounds in
    let v : ℕ = c.args.node in
    let ms : List ℕ = c.members_of-members.result.now in
    let i : ℕ = c.loop-state.state-index in
    let end : length ms ≤ i = omega arith in
    record {
      upper = c.loop-state.invariant.0 ∙ member_all M (upper_means bounds) ms (staying M bounds.hi.now v) v i c.members_of-members.ensures end;
      lower = c.loop-state.invariant.1 ∙ member_all M (lower_means bounds) ms (staying M bounds.lo.now v) v i c.members_of-members.ensures end;
    }
