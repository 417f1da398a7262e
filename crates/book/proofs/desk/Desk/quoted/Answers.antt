use Rattle.std.proofs.Common.{◌≡◌, ◌<◌, length, pos, vec_items, ap, ◌∙◌, arith, w64, SFits, rules}
use Rattle.std.proofs.lemmas.List.{get_or_read}
use Rattle.std.proofs.lemmas.Int.{to_z-of_z}
use Rattle.components.specs.Nodes.{node_of}
use Rattle.rules.specs.Choosing.{at_z}
use Rattle.table.specs.Table.{Table}
use Rattle.rules.proofs.Nodes.{node_number}
use Rattle.book.specs.Desks.{desk_table}
use Rattle.book.proofs.Keeps.{keeps_true}
use Rattle.book.proofs.Layouts.{law}
use Rattle.book.proofs.desk.Desk.quoted.Goals as goal

pub index-requires : goal.index-requires
index-requires c =
    let T : Table = desk_table c.args.self.now in
    let e = c.node_of-node.ensures in
    let m = node_number T (law c.args.self.now.layout) c.args.state c.requires in
    let k = (keeps_true T c.args.self.now.book c.args.self.now.kept).fit.lengths.y in
    let o = c.args.self.now.book.y.ok.0 in
    omega arith

pub index-requires-2 : goal.index-requires-2
index-requires-2 c =
    let T : Table = desk_table c.args.self.now in
    let e = c.node_of-node.ensures in
    let m = node_number T (law c.args.self.now.layout) c.args.state c.requires in
    let k = (keeps_true T c.args.self.now.book c.args.self.now.kept).fit.lengths.x in
    let o = c.args.self.now.book.x.ok.0 in
    omega arith

pub returns : goal.returns
returns c =
    let T : Table = desk_table c.args.self.now in
    let e = c.node_of-node.ensures in
    let m = node_number T (law c.args.self.now.layout) c.args.state c.requires in
    let B = c.args.self.now.book in
    let ky = (keeps_true T c.args.self.now.book c.args.self.now.kept).fit.lengths.y in
    let kx = (keeps_true T c.args.self.now.book c.args.self.now.kept).fit.lengths.x in
    let v = c.node_of-node.result in
    let ly : v < length (vec_items B.y) = omega arith in
    let lx : v < length (vec_items B.x) = omega arith in
    let fy : SFits w64 c.index.result.now = search rules in
    let fx : SFits w64 c.index-2.result.now = search rules in
    let y : c.index.result.now ≡ at_z (vec_items B.y) (node_of T c.args.state) =
    get_or_read (vec_items B.y) v c.index.result.now ly c.index.ensures (pos 0) ∙ ap (at_z (vec_items B.y)) e in
    let x : c.index-2.result.now ≡ at_z (vec_items B.x) (node_of T c.args.state) =
    get_or_read (vec_items B.x) v c.index-2.result.now lx c.index-2.ensures (pos 0) ∙ ap (at_z (vec_items B.x)) e in
    record { lower = simp to_z-of_z y; upper = simp to_z-of_z x }
