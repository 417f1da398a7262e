use Rattle.std.proofs.Common.{◌≡◌, ℕ, suc, ◌+◌, ◌-◌, ◌^◌, ◌<◌, true, false, List, length, ℤ, pos, ◌-ℤ◌, neg_ℤ, ◌≤ℤ◌, sym, ap, ◌∙◌, subst, arith}
use lib.Signed.{le_z}
use Rattle.table.specs.Table.{Table}
use Rattle.components.specs.Nodes.{components}
use Rattle.rules.specs.Choosing.{at, at_z}
use Rattle.rules.specs.Setting.{Setting, setting_of}
use Rattle.rules.specs.Book as rules
use Rattle.rules.specs.Refine as refining
use Rattle.rules.specs.Refine.{Refined, held, step, refine}
use Rattle.book.specs.Desks.{desk_table, desk_book}
use Rattle.book.specs.Books.{book_of}
use Rattle.book.specs.declared.book.Book.{Book}
use Rattle.book.proofs.Keeps.{keeps_true, keeps_from}
use Rattle.book.proofs.Refines.{bounds_small, refine_none, refine_narrow, refine_held, refine_on, on}
use Rattle.book.proofs.Layouts.{law}
use Rattle.book.proofs.desk.Desk.refine_steps.Goals as goal

pub narrow-requires : goal.narrow-requires
narrow-requires c =
    let d = c.loop-made.self in
    let T : Table = desk_table d in
    let b : Book = d.book in
    let K = keeps_true T b d.kept in
    let k : ℕ = c.args.component in
    let h : k < components T = subst (λ (S : Table). k < components S) (sym c.loop-made.invariant.2) c.requires in
    let el = ap (λ (l : List ℤ). length l) c.deref.ensures.value ∙ K.fit.lengths.lo in
    let eh = ap (λ (l : List ℤ). length l) c.deref-in-loop-made.ensures.value ∙ K.fit.lengths.hi in
    record {
      lo = omega arith;
      hi = omega arith;
      low = subst (λ (l : List ℤ). (neg_ℤ (pos (2 ^ 46)) ≤ℤ at_z l k) × (at_z l k ≤ℤ pos (2 ^ 46))) (sym c.deref.ensures.value)
          (bounds_small T (law d.layout) (book_of b).lo (components T) K.fit.lo k h);
      high = subst (λ (l : List ℤ). (neg_ℤ (pos (2 ^ 46)) ≤ℤ at_z l k) × (at_z l k ≤ℤ pos (2 ^ 46))) (sym c.deref-in-loop-made.ensures.value)
          (bounds_small T (law d.layout) (book_of b).hi (components T) K.fit.hi k h);
    }

pub returns-then-narrow : goal.returns-then-narrow
returns-then-narrow c =
    let M : Setting = setting_of (desk_table c.args.self.now) in
    let B : rules.Book = desk_book c.loop-made.self in
    let k : ℕ = c.args.component in
    let i : ℕ = c.loop-made.made in
    let n : ℕ = c.args.steps in
    let width : ℕ = c.args.width in
    let more : n - i ≡ suc (n - (i + 1)) = omega arith in
    let test : refining.narrow width k B ≡ true =
    sym (ap (λ (l : List ℤ). le_z (at_z c.deref-in-loop-made.result.now k -ℤ at_z l k) (pos width)) c.deref.ensures.value
    ∙ ap (λ (l : List ℤ). le_z (at_z l k -ℤ at_z B.lo k) (pos width)) c.deref-in-loop-made.ensures.value)
    ∙ sym c.narrow.ensures ∙ c.if-narrow.true in
    let end : refine M k (n - i) width B ≡ record { book = B; made = 0 } = ap (λ (j : ℕ). refine M k j width B) more ∙ refine_narrow M k (n - (i + 1)) width B test in
    let zero-made : i ≡ i + 0 = omega arith in
    record {
      made = zero-made ∙ ap (λ (r : Refined). i + r.made) (sym end) ∙ c.loop-made.invariant.1;
      book = sym (ap (λ (r : Refined). r.book) end) ∙ c.loop-made.invariant.0;
      table = c.loop-made.invariant.2;
    }

pub returns-then-refine_step : goal.returns-then-refine_step
returns-then-refine_step c =
    let M : Setting = setting_of (desk_table c.args.self.now) in
    let B : rules.Book = desk_book c.loop-made.self in
    let k : ℕ = c.args.component in
    let i : ℕ = c.loop-made.made in
    let n : ℕ = c.args.steps in
    let width : ℕ = c.args.width in
    let more : n - i ≡ suc (n - (i + 1)) = omega arith in
    let test : refining.narrow width k B ≡ false =
    sym (ap (λ (l : List ℤ). le_z (at_z c.deref-in-loop-made.result.now k -ℤ at_z l k) (pos width)) c.deref.ensures.value
    ∙ ap (λ (l : List ℤ). le_z (at_z l k -ℤ at_z B.lo k) (pos width)) c.deref-in-loop-made.ensures.value)
    ∙ sym c.narrow.ensures ∙ c.if-narrow.false in
    let end : refine M k (n - i) width B ≡ record { book = step M k B; made = 1 } =
    ap (λ (j : ℕ). refine M k j width B) more ∙ refine_held M k (n - (i + 1)) width B test (sym (c.refine_step.ensures.held ∙ ap (λ (S : Table). held (setting_of S) (at B.vector) k) c.loop-made.invariant.2) ∙ c.if-refine_step.true) in
    record {
      made = ap (λ (r : Refined). i + r.made) (sym end) ∙ c.loop-made.invariant.1;
      book = c.refine_step.ensures.book ∙ ap (λ (S : Table). step (setting_of S) k B) c.loop-made.invariant.2 ∙ sym (ap (λ (r : Refined). r.book) end) ∙ c.loop-made.invariant.0;
      table = c.loop-made.invariant.2;
    }

pub loop-made-preserved : goal.loop-made-preserved
loop-made-preserved c =
    let M : Setting = setting_of (desk_table c.args.self.now) in
    let B : rules.Book = desk_book c.loop-made.self in
    let after : rules.Book = book_of c.refine_step.new.book in
    let k : ℕ = c.args.component in
    let i : ℕ = c.loop-made.made in
    let n : ℕ = c.args.steps in
    let m : ℕ = n - (i + 1) in
    let width : ℕ = c.args.width in
    let more : n - i ≡ suc (n - (i + 1)) = omega arith in
    let test : refining.narrow width k B ≡ false =
    sym (ap (λ (l : List ℤ). le_z (at_z c.deref-in-loop-made.result.now k -ℤ at_z l k) (pos width)) c.deref.ensures.value
    ∙ ap (λ (l : List ℤ). le_z (at_z l k -ℤ at_z B.lo k) (pos width)) c.deref-in-loop-made.ensures.value)
    ∙ sym c.narrow.ensures ∙ c.if-narrow.false in
    let stepped : step M k B ≡ after = sym (c.refine_step.ensures.book ∙ ap (λ (S : Table). step (setting_of S) k B) c.loop-made.invariant.2) in
    let end : refine M k (n - i) width B ≡ on M k m width B =
    ap (λ (j : ℕ). refine M k j width B) more ∙ refine_on M k m width B test (sym (c.refine_step.ensures.held ∙ ap (λ (S : Table). held (setting_of S) (at B.vector) k) c.loop-made.invariant.2) ∙ c.if-refine_step.false) in
    let count : (refine M k (n - i) width B).made ≡ suc (refine M k m width after).made =
    ap (λ (r : Refined). r.made) end ∙ ap (λ (A : rules.Book). suc (refine M k m width A).made) stepped in
    let moved : (i + 1) + (refine M k m width after).made ≡ i + suc (refine M k m width after).made = omega arith in (
      sym (ap (λ (r : Refined). r.book) end ∙ ap (λ (A : rules.Book). (refine M k m width A).book) stepped) ∙ c.loop-made.invariant.0,
      moved ∙ ap (λ (j : ℕ). i + j) (sym count) ∙ c.loop-made.invariant.1,
      c.loop-made.invariant.2,
    )

pub returns : goal.returns
returns c =
    let M : Setting = setting_of (desk_table c.args.self.now) in
    let B : rules.Book = desk_book c.loop-made.self in
    let k : ℕ = c.args.component in
    let i : ℕ = c.loop-made.made in
    let n : ℕ = c.args.steps in
    let width : ℕ = c.args.width in
    let none : n - i ≡ 0 = omega arith in
    let end : refine M k (n - i) width B ≡ record { book = B; made = 0 } = ap (λ (j : ℕ). refine M k j width B) none ∙ refine_none M k width B in
    let all : n ≡ i + 0 = omega arith in
    record {
      made = all ∙ ap (λ (r : Refined). i + r.made) (sym end) ∙ c.loop-made.invariant.1;
      book = sym (ap (λ (r : Refined). r.book) end) ∙ c.loop-made.invariant.0;
      table = c.loop-made.invariant.2;
    }

pub refine_step-requires : goal.refine_step-requires
refine_step-requires c =
    let d = c.loop-made.self in
    record {
      kept = keeps_true (desk_table d) d.book d.kept;
      component = subst (λ (S : Table). c.args.component < components S) (sym c.loop-made.invariant.2) c.requires;
    }

pub invariant_of-self-in-loop-made : goal.invariant_of-self-in-loop-made
invariant_of-self-in-loop-made c = record { kept = keeps_from (desk_table c.loop-made.self) c.refine_step.new.book c.refine_step.ensures.kept }
