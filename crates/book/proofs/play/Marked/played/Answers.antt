use Rattle.std.proofs.Common.{◌≡◌, ℕ, eqb, Some, List, Option, sym, refl, ap, ◌∙◌, subst, arith}
use Rattle.std.proofs.lemmas.Bool.{cond-false, ne_eqb}
use Rattle.table.specs.Table.{Table}
use Rattle.components.specs.Nodes.{node_of}
use Rattle.rules.specs.Play.{distance, toward}
use Rattle.rules.specs.declared.exit.Exit.{Exit}
use Rattle.book.specs.Layouts.{layout_table}
use Rattle.book.specs.Plays.{Ready, Measured, mark_at, play_by}
use Rattle.book.proofs.Distances.{one_mark, no_mark, distance_other, toward_into}
use Rattle.book.proofs.Layouts.{law}
use Rattle.book.proofs.play.Marked.played.Goals as goal
use Rattle.book.proofs.play.Marked.played.Goals.{In-Leave}

-- where the exit leaves, each state of its node has its distance
module _ (c : In-Leave) where
  abbrev T : Table
  T = layout_table c.args.self.now.layout.now

  abbrev marks : List (Option ℕ)
  marks = c.args.self.now.distances.now

  measured : Measured T (node_of T c.args.state) c.in-Leave.target marks
  measured = subst (λ (e : Exit). Ready T (node_of T c.args.state) e marks) c.in-Leave.is c.requires.ready

  has_distance : mark_at marks c.args.state ≡ Some (distance T c.in-Leave.target c.args.state)
  has_distance = measured c.args.state c.requires.known refl

pub unreachable-requires : goal.unreachable-requires
unreachable-requires c =
    let w = (goal.at.unreachable-requires c).In-Leave in
    no_mark (mark_at (marks w) c.args.state) (distance (T w) c.in-Leave.target c.args.state) (has_distance w) c.in_default.is

pub overflow_sub-distance : goal.overflow_sub-distance
overflow_sub-distance c =
    let w = (goal.at.overflow_sub-distance c).In-Leave in
    let t : ℕ = c.in-Leave.target in
    let s : ℕ = c.args.state in
    let d = one_mark (mark_at (marks w) s) c.in-Some.distance (distance (T w) t s) c.in-Some.is (has_distance w) in
    let o = distance_other (T w) (law c.args.self.now.layout.now) t s c.if-state-target.false in
    omega arith

pub returns-in-Some : goal.returns-in-Some
returns-in-Some c =
    let w = (goal.at.returns-in-Some c).In-Leave in
    let t : ℕ = c.in-Leave.target in
    let s : ℕ = c.args.state in
    let d = one_mark (mark_at (marks w) s) c.in-Some.distance (distance (T w) t s) c.in-Some.is (has_distance w) in
    c.first_into.ensures
    ∙ toward_into (T w) (law c.args.self.now.layout.now) t s c.in-Some.distance (marks w) c.requires.known c.if-state-target.false (measured w) d
    ∙ sym (cond-false (eqb s t) c.in-Leave.choice (toward (T w) t s) (ne_eqb s t c.if-state-target.false))
    ∙ ap (λ (e : Exit). play_by (T w) c.args.recorded.now e s) (sym c.in-Leave.is)
