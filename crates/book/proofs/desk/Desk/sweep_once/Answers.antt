use Rattle.std.proofs.Common.{◌≡◌, ℕ, Bool, ◌&&◌, refl, ap, ap₂, ◌∙◌, arith}
use Rattle.table.specs.Table.{Table}
use Rattle.components.specs.Nodes.{nodes}
use Rattle.rules.specs.Setting.{Setting, setting_of}
use Rattle.rules.specs.Book as rules
use Rattle.rules.specs.Sweep.{update, updates}
use Rattle.book.specs.Desks.{desk_table, desk_book}
use Rattle.book.specs.Sweeps.{same_at}
use Rattle.book.proofs.Sweeps.{quiet_more, quiet_all, updates_more, updates_none}
use Rattle.book.proofs.desk.Desk.sweep_once.Goals as goal

pub loop-node-init : goal.loop-node-init
loop-node-init c = (updates_none (setting_of (desk_table c.args.self.now)) (desk_book c.args.self.now), refl, refl)

pub loop-node-preserved : goal.loop-node-preserved
loop-node-preserved c =
    let M : Setting = setting_of (desk_table c.args.self.now) in
    let A : rules.Book = desk_book c.args.self.now in
    let k : ℕ = c.loop-node.node in
    let after : rules.Book = desk_book c.update_node-quiet.new.self in
    let book : after ≡ update M k (updates M k A) =
    c.update_node-quiet.ensures.book
    ∙ ap (λ (T : Table). update (setting_of T) k (desk_book c.loop-node.self)) c.loop-node.invariant.1
    ∙ ap (λ (B : rules.Book). update M k B) c.loop-node.invariant.0 in
    let now-same : Bool = same_at (updates M k A) (update M k (updates M k A)) k in
    let same : c.update_node-quiet.result ≡ now-same =
    c.update_node-quiet.ensures.same
    ∙ ap (λ (B : rules.Book). same_at B after k) c.loop-node.invariant.0
    ∙ ap (λ (B : rules.Book). same_at (updates M k A) B k) book in (
      book ∙ updates_more M A k,
      c.update_node-quiet.ensures.table ∙ c.loop-node.invariant.1,
      ap₂ (λ (a b : Bool). a && b) c.loop-node.invariant.2 same ∙ quiet_more M A k,
    )

pub returns : goal.returns
returns c =
    let M : Setting = setting_of (desk_table c.args.self.now) in
    let A : rules.Book = desk_book c.args.self.now in
    let size = c.nodes-node-end.ensures.count in
    let end : c.loop-node.node ≡ nodes (desk_table c.args.self.now) = omega arith in
    let all = quiet_all M A c.loop-node.node end in
    record { table = c.loop-node.invariant.1; book = c.loop-node.invariant.0 ∙ all.0; still = c.loop-node.invariant.2 ∙ all.1 }
