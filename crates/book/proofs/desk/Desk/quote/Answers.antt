use Rattle.std.proofs.Common.{◌<◌, ◌≤◌, pos, sym, subst, arith}
use Rattle.table.specs.Table.{Table}
use Rattle.horizon.specs.Ring.{lin}
use Rattle.components.specs.Nodes.{nodes, node_of}
use Rattle.rules.specs.Setting.{setting_of}
use Rattle.rules.specs.Promises.{lower_at, upper_at}
use Rattle.rules.proofs.Nodes.{node_number}
use Rattle.book.specs.Desks.{desk_table, desk_book, SmallBound}
use Rattle.book.proofs.Desks.{no_bounds, some_bounds}
use Rattle.book.proofs.Keeps.{keeps_true}
use Rattle.book.proofs.Layouts.{law}
use Rattle.book.proofs.Refines.{bounds_small}
use Rattle.book.proofs.desk.Desk.quote.Goals as goal

pub returns-then-state-states : goal.returns-then-state-states
returns-then-state-states c =
    let d = c.args.self.now in
    let h : (desk_table d).states ≤ c.args.state = omega (arith, c.states.ensures, c.if-state-states.true) in
    let z : SmallBound (pos 0) = (omega (arith, lin), omega (arith, lin)) in
    record { bounds = no_bounds (desk_table d) (desk_book d) c.args.state h; small = (z, z) }

pub returns : goal.returns
returns c =
    let d = c.args.self.now in
    let T : Table = desk_table d in
    let h : c.args.state < T.states = omega (arith, c.states.ensures, c.if-state-states.false) in
    let L = law d.layout in
    let F = (keeps_true T d.book d.kept).fit in
    let v = node_number T L c.args.state h in
    let y : SmallBound (lower_at (setting_of T) (desk_book d) c.args.state) = bounds_small T L (desk_book d).y (nodes T) F.y (node_of T c.args.state) v in
    let x : SmallBound (upper_at (setting_of T) (desk_book d) c.args.state) = bounds_small T L (desk_book d).x (nodes T) F.x (node_of T c.args.state) v in
    record {
      bounds = some_bounds T (desk_book d) c.args.state c.quoted.result h c.quoted.ensures.lower c.quoted.ensures.upper;
      small = (subst SmallBound (sym c.quoted.ensures.lower) y, subst SmallBound (sym c.quoted.ensures.upper) x);
    }
