use Rattle.std.proofs.Common.{ℕ, ◌<◌, ◌≤◌, List, length, sym, ap, ◌∙◌, subst, arith}
use Rattle.table.specs.Table.{Table}
use Rattle.rules.specs.Choosing.{at}
use Rattle.rules.specs.Book.{exit_at}
use Rattle.rules.specs.Play.{play}
use Rattle.rules.specs.declared.exit.Exit.{Exit}
use Rattle.rules.specs.Fit.{PlanFits}
use Rattle.rules.specs.Setting.{setting_of}
use Rattle.book.specs.Desks.{desk_table, desk_book}
use Rattle.book.proofs.Desks.{no_plan, some_plan, filled}
use Rattle.book.proofs.Keeps.{keeps_true}
use Rattle.book.proofs.Plays.{play_written}
use Rattle.book.proofs.desk.Desk.plan.Goals as goal

pub returns-then-list-states : goal.returns-then-list-states
returns-then-list-states c =
    let d = c.args.self.now in
    let h : length c.args.list.now < (desk_table d).states = omega (arith, c.states.ensures, c.if-list-states.true) in
    no_plan (desk_table d) (desk_book d) c.args.list.now h

pub write_nodes-requires : goal.write_nodes-requires
write_nodes-requires c =
    let d = c.args.self.now in
    let T : Table = desk_table d in
    let K = keeps_true T d.book d.kept in
    let lr = K.fit.lengths.recorded in
    let lp = K.fit.lengths.plan in
    record {
      recorded = omega (arith, ap (λ (l : List ℕ). length l) c.deref.ensures.value, lr);
      plan = ap (λ (l : List Exit). length l) c.deref-2.ensures.value ∙ lp;
      fits = subst (λ (l : List Exit). PlanFits (setting_of T) (exit_at l)) (sym c.deref-2.ensures.value) K.fit.plan;
      room = omega (arith, c.states.ensures, c.if-list-states.false);
    }

pub returns : goal.returns
returns c =
    let d = c.args.self.now in
    let T : Table = desk_table d in
    let B = desk_book d in
    let h : T.states ≤ length c.args.list.now = omega (arith, c.states.ensures, c.if-list-states.false) in
    let m : T.states ≤ length c.write_nodes.new.list = omega (arith, h, c.write_nodes.auto.list) in
    some_plan T B c.args.list.now c.write_nodes.new.list h (filled T.states (play T B) c.write_nodes.new.list c.args.list.now m
    (λ s l. play_written T B s _ _ (at c.write_nodes.new.list s) (c.write_nodes.ensures.written s l) c.deref.ensures.value c.deref-2.ensures.value)
    c.write_nodes.ensures.rest)
