use Rattle.std.proofs.Common.{◌≡◌, ℕ, Bool, true, ◌&&◌, length, sym, ap, ◌∙◌, arith}
use Rattle.components.specs.Inside.{inside}
use Rattle.rules.specs.Play.{enters}
use Rattle.book.specs.Layouts.{layout_table}
use Rattle.book.specs.Plays.{has_mark}
use Rattle.book.proofs.Layouts.{law}
use Rattle.book.proofs.Runs.{run_within, run_enters}
use Rattle.book.proofs.play.Marked.inside_into.Goals as goal

pub enters-requires : goal.enters-requires
enters-requires c =
    let f = c.args.self.now.layout.now in
    record {
      inside = run_within (layout_table f) (law f) c.args.state c.args.choice c.requires.known c.requires.chosen (λ u. u) c.branches_of.result.now
          c.branches_of.ensures.size c.branches_of.ensures.at (length c.args.self.now.distances.now) (λ u l. let r = c.args.self.now.room in omega arith);
    }

pub returns-then-is_inside : goal.returns-then-is_inside
returns-then-is_inside c =
    let f = c.args.self.now.layout.now in
    let T = layout_table f in
    let s : ℕ = c.args.state in
    let d : ℕ = c.args.choice in
    let p : ℕ → Bool = has_mark c.args.self.now.distances.now c.args.mark in
    let i : inside T s d ≡ true = sym c.is_inside.ensures ∙ c.if-is_inside.true in
    c.enters.ensures
    ∙ run_enters T (law f) s d c.requires.known c.requires.chosen (λ u. u) c.branches_of.result.now c.branches_of.ensures.size c.branches_of.ensures.at p
    ∙ sym (ap (λ (x : Bool). x && enters T p s d) i)
