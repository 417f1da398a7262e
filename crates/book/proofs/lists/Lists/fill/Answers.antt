use Rattle.std.proofs.Common.{ℕ, List, map, vec_items, ap, ◌∙◌, arith}
use Rattle.table.specs.Table.{Table}
use Rattle.model.specs.Held.{table_of}
use Rattle.decomposition.specs.Decomposed.{node_in}
use Rattle.book.specs.Listed.{link_of}
use Rattle.book.proofs.Laid as laid
use Rattle.book.proofs.Layouts.{lawful_few}
use Rattle.book.proofs.lists.Lists.fill.Goals as goal

pub list_homes-requires : goal.list_homes-requires
list_homes-requires c =
    let D = c.take_apart.ensures in
    let few = lawful_few (table_of c.args.model.now) D.lawful in
    let r = c.args.self.now.home_room in
    omega (arith, few.1, D.components_are)

pub returns : goal.returns
returns c =
    let p = c.take_apart.new.self in
    let T : Table = table_of c.args.model.now in
    let D = c.take_apart.ensures in
    let starts = vec_items c.group_states.new.starts in
    let members = vec_items c.group_states.new.members in
    let home = vec_items c.list_homes.new.home in
    let n = c.states.result in
    let known = c.states.ensures.value in
    let G = c.group_states.ensures.grouped in
    let size = c.list_homes.ensures.size in
    let H = c.list_homes.ensures.homes in
    record {
      inside_size = D.inside_size;
      insides = laid.insides T p D;
      node_size = D.node_size;
      node_at = D.node_is;
      component_size = laid.component_size T p D;
      component_is = D.component_is;
      links_are = c.link_branches.ensures.links ∙ ap (λ (xs : List (ℕ × ℕ)). map (link_of (node_in p)) xs) c.deref.ensures.value;
      start_size = laid.start_size T p D n known starts members G;
      start_rises = laid.start_rises T p D n known starts members G;
      start_within = laid.start_within T p D n known starts members G;
      members_at = laid.members_at T p D n known starts members G;
      home_size = laid.home_size T p D home size H;
      home_within = laid.home_within T p D home size H;
      home_at = laid.home_at T p D home size H;
    }
