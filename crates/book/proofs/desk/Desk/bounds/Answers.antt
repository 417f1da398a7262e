use Rattle.std.proofs.Common.{◌≡◌, ◌<◌, ◌≤◌, length, pos, vec_items, sym, arith, w64, SFits, rules}
use Rattle.book.specs.Desks.{desk_table}
use Rattle.std.proofs.lemmas.List.{get_or_read, get_or_past}
use Rattle.std.proofs.lemmas.Int.{to_z-of_z}
use Rattle.rules.specs.Choosing.{at_z}
use Rattle.book.proofs.Keeps.{keeps_true}
use Rattle.book.proofs.desk.Desk.bounds.Goals as goal

pub returns-then-component-components : goal.returns-then-component-components
returns-then-component-components c =
    let d = c.args.self.now in
    let k = keeps_true (desk_table d) d.book d.kept in
    let lo : length (vec_items d.book.lo) ≤ c.args.component = omega (arith, k.fit.lengths.lo, c.components.ensures, c.if-component-components.true) in
    let hi : length (vec_items d.book.hi) ≤ c.args.component = omega (arith, k.fit.lengths.hi, c.components.ensures, c.if-component-components.true) in
    record {
      lo = sym (get_or_past (vec_items d.book.lo) c.args.component (pos 0) lo);
      hi = sym (get_or_past (vec_items d.book.hi) c.args.component (pos 0) hi);
    }

pub index-requires : goal.index-requires
index-requires c =
    let d = c.args.self.now in
    let k = keeps_true (desk_table d) d.book d.kept in
    omega (arith, k.fit.lengths.lo, d.book.lo.ok.0, c.components.ensures, c.if-component-components.false)

pub index-requires-2 : goal.index-requires-2
index-requires-2 c =
    let d = c.args.self.now in
    let k = keeps_true (desk_table d) d.book d.kept in
    omega (arith, k.fit.lengths.hi, d.book.hi.ok.0, c.components.ensures, c.if-component-components.false)

pub returns : goal.returns
returns c =
    let d = c.args.self.now in
    let k = keeps_true (desk_table d) d.book d.kept in
    let l : c.args.component < length (vec_items d.book.lo) = omega (arith, k.fit.lengths.lo, c.components.ensures, c.if-component-components.false) in
    let h : c.args.component < length (vec_items d.book.hi) = omega (arith, k.fit.lengths.hi, c.components.ensures, c.if-component-components.false) in
    let fl : SFits w64 c.index.result.now = search rules in
    let fh : SFits w64 c.index-2.result.now = search rules in
    let lo : c.index.result.now ≡ at_z (vec_items d.book.lo) c.args.component =
    get_or_read (vec_items d.book.lo) c.args.component c.index.result.now l c.index.ensures (pos 0) in
    let hi : c.index-2.result.now ≡ at_z (vec_items d.book.hi) c.args.component =
    get_or_read (vec_items d.book.hi) c.args.component c.index-2.result.now h c.index-2.ensures (pos 0) in
    record { lo = simp to_z-of_z lo; hi = simp to_z-of_z hi }
