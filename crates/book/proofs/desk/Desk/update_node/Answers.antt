use Rattle.std.proofs.Common.{◌≡◌, ℕ, Bool, cond, ◌&&◌, List, length, set, ℤ, pos, vec_items, Option, sym, refl, ap, ap₂, ◌∙◌, subst, arith, w64, SFits, to_z, of_z, rules}
use lib.Signed.{lt_z}
use Rattle.std.specs.Vec.{with_items}
use Rattle.std.proofs.lemmas.List.{get_or_read}
use Rattle.std.proofs.lemmas.Int.{to_z-of_z}
use Rattle.components.specs.Nodes.{nodes}
use Rattle.horizon.specs.Means.{round_up, round_down}
use Rattle.rules.specs.Choosing.{eq_z, at_z}
use Rattle.rules.specs.Setting.{Setting, setting_of}
use Rattle.rules.specs.Book as rules
use Rattle.rules.specs.Sweep.{best_of, best_x, best_y, value_or, exit_or}
use Rattle.rules.specs.declared.exit.Candidate.{Candidate}
use Rattle.rules.specs.declared.exit.Exit.{Exit}
use Rattle.rules.proofs.Places.{set_here}
use Rattle.table.specs.Table.{Table}
use Rattle.book.specs.Books.{Kept}
use Rattle.book.specs.declared.book.Book.{Book}
use Rattle.book.specs.declared.desk.Desk.{Desk}
use Rattle.book.specs.Desks.{desk_table, desk_book}
use Rattle.book.specs.Bounded.{AllBounded}
use Rattle.book.proofs.Keeps.{keeps_true, keeps_from}
use Rattle.book.proofs.Layouts.{law}
use Rattle.book.proofs.Settled.{settled, settled_kept}
use Rattle.book.proofs.Sweeps.{within_small, written}
use Rattle.book.proofs.desk.Desk.update_node.Goals as goal
use Rattle.book.proofs.desk.Desk.update_node.Goals.{After-settle_plan}

-- what a desk keeps
kept_of : (d : Desk) → Kept (desk_table d) d.book
kept_of d = keeps_true (desk_table d) d.book d.kept

pub invariant_of-bounds : goal.invariant_of-bounds
invariant_of-bounds c =
    let d = c.args.self.now in
    let T : Table = desk_table d in
    let b : Book = d.book in
    let K = kept_of d in
    record {
      hi_size = ap (λ (l : List ℤ). length l) c.deref.ensures.value ∙ K.fit.lengths.hi;
      x_size = ap (λ (l : List ℤ). length l) c.deref-2.ensures.value ∙ K.fit.lengths.x;
      x_small = subst (λ (l : List ℤ). AllBounded l) (sym c.deref-2.ensures.value) (within_small T (law d.layout) (vec_items b.x) (nodes T) K.fit.lengths.x K.fit.x);
      lo_size = ap (λ (l : List ℤ). length l) c.deref-3.ensures.value ∙ K.fit.lengths.lo;
      y_size = ap (λ (l : List ℤ). length l) c.deref-4.ensures.value ∙ K.fit.lengths.y;
      y_small = subst (λ (l : List ℤ). AllBounded l) (sym c.deref-4.ensures.value) (within_small T (law d.layout) (vec_items b.y) (nodes T) K.fit.lengths.y K.fit.y);
    }

-- what was found and written
module _ (c : After-settle_plan) where
  abbrev d : Desk
  d = c.args.self.now

  abbrev v : ℕ
  v = c.args.node

  abbrev M : Setting
  M = setting_of (desk_table d)

  abbrev B : rules.Book
  B = desk_book d

  abbrev high : Option Candidate
  high = c.best_exits-upper.result.0

  abbrev low : Option Candidate
  low = c.best_exits-upper.result.1

  is-high : high ≡ best_x M v B
  is-high =
      c.best_exits-upper.ensures.upper
      ∙ ap (λ (l : List ℤ). best_of M round_up l c.deref-2.result.now v) c.deref.ensures.value
      ∙ ap (λ (l : List ℤ). best_of M round_up B.hi l v) c.deref-2.ensures.value

  is-low : low ≡ best_y M v B
  is-low =
      c.best_exits-upper.ensures.lower
      ∙ ap (λ (l : List ℤ). best_of M round_down l c.deref-4.result.now v) c.deref-3.ensures.value
      ∙ ap (λ (l : List ℤ). best_of M round_down B.lo l v) c.deref-4.ensures.value

  wx : c.settle-same_x.new.values ≡ set B.x v (value_or high (at_z B.x v))
  wx = c.settle-same_x.ensures.values ∙ ap (λ (l : List ℤ). set l v (value_or high (at_z l v))) c.deref_mut.ensures.value

  wy : c.settle-same_y.new.values ≡ set B.y v (value_or low (at_z B.y v))
  wy = c.settle-same_y.ensures.values ∙ ap (λ (l : List ℤ). set l v (value_or low (at_z l v))) c.deref_mut-2.ensures.value

  abbrev before : ℤ
  before = to_z w64 (of_z w64 c.index-before.result.now)

  is-before : before ≡ at_z B.y v
  is-before =
      let fits : SFits w64 c.index-before.result.now = search rules in
      to_z-of_z w64 c.index-before.result.now fits
      ∙ get_or_read B.y v c.index-before.result.now (omega (arith, c.requires, (kept_of d).fit.lengths.y)) c.index-before.ensures (pos 0)

  wp : c.settle_plan.new.plan ≡ set B.plan v (cond (lt_z before (value_or low before)) (exit_or low (rules.exit_at B.plan v)) (rules.exit_at B.plan v))
  wp =
      c.settle_plan.ensures
      ∙ ap (λ (l : List Exit). set l v (cond (lt_z before (value_or low before)) (exit_or low (rules.exit_at l v)) (rules.exit_at l v))) c.deref_mut-3.ensures.value

  abbrev x-now : List ℤ
  x-now = vec_items (with_items d.book.x c.settle-same_x.new.values)

  abbrev y-now : List ℤ
  y-now = vec_items (with_items d.book.y c.settle-same_y.new.values)

  same-x : c.settle-same_x.result ≡ eq_z (at_z B.x v) (at_z x-now v)
  same-x =
      let new : ℤ = value_or high (at_z B.x v) in
      let h = c.requires in
      let n = (kept_of d).fit.lengths.x in
      c.settle-same_x.ensures.same
      ∙ ap (λ (l : List ℤ). eq_z (at_z l v) (value_or high (at_z l v))) c.deref_mut.ensures.value
      ∙ ap (λ (z : ℤ). eq_z (at_z B.x v) z)
      (sym (ap (λ (l : List ℤ). at_z l v) (written d.book.x c.settle-same_x.new.values v new d.book.x.ok.0 wx) ∙ set_here B.x v v new (pos 0) refl (omega arith)))

  same-y : c.settle-same_y.result ≡ eq_z (at_z B.y v) (at_z y-now v)
  same-y =
      let new : ℤ = value_or low (at_z B.y v) in
      let h = c.requires in
      let n = (kept_of d).fit.lengths.y in
      c.settle-same_y.ensures.same
      ∙ ap (λ (l : List ℤ). eq_z (at_z l v) (value_or low (at_z l v))) c.deref_mut-2.ensures.value
      ∙ ap (λ (z : ℤ). eq_z (at_z B.y v) z)
      (sym (ap (λ (l : List ℤ). at_z l v) (written d.book.y c.settle-same_y.new.values v new d.book.y.ok.0 wy) ∙ set_here B.y v v new (pos 0) refl (omega arith)))

pub invariant_of-self : goal.invariant_of-self
invariant_of-self c =
    let d = c.args.self.now in
    let w = c.before in
    record { kept = keeps_from (desk_table d) _ (settled_kept (desk_table d) (v w) d.book (high w) (low w) (is-high w) (is-low w) c.settle-same_x.new.values c.settle-same_y.new.values c.settle_plan.new.plan (before w) (is-before w) (wx w) (wy w) (wp w) (law d.layout) (kept_of d)) }

pub returns : goal.returns
returns c =
    let d = c.args.self.now in
    let w = c.before.before in
    record {
      table = refl;
      book = settled (desk_table d) (v w) d.book (high w) (low w) (is-high w) (is-low w) c.settle-same_x.new.values c.settle-same_y.new.values c.settle_plan.new.plan (before w) (is-before w) (wx w) (wy w) (wp w);
      same = ap₂ (λ (a b : Bool). a && b) (same-x w) (same-y w);
    }

pub settle-same_x-requires : goal.settle-same_x-requires
settle-same_x-requires c = omega (arith, c.requires, c.deref_mut.ensures.len, (kept_of c.args.self.now).fit.lengths.x, c.args.self.now.book.x.ok.0)

pub settle-same_y-requires : goal.settle-same_y-requires
settle-same_y-requires c = omega (arith, c.requires, c.deref_mut-2.ensures.len, (kept_of c.args.self.now).fit.lengths.y, c.args.self.now.book.y.ok.0)

pub settle_plan-requires : goal.settle_plan-requires
settle_plan-requires c = omega (arith, c.requires, c.deref_mut-3.ensures.len, (kept_of c.args.self.now).fit.lengths.plan, c.args.self.now.book.plan.ok.0)

pub index-before-requires : goal.index-before-requires
index-before-requires c = omega (arith, c.requires, (kept_of c.args.self.now).fit.lengths.y, c.args.self.now.book.y.ok.0)
