-- The branches of a layout with the nodes of their successors, as the code reads them.
use Rattle.std.proofs.Common.{◌≡◌, ℕ, ◌+◌, ◌<◌, ◌≤◌, List, length, get_or, vec_items, sym, refl, ap, ◌∙◌, arith}
use Rattle.std.proofs.lemmas.List.{get_or-map, length-map}
use Rattle.table.specs.Table.{successor, weight}
use Rattle.components.specs.Nodes.{node_of, nodes}
use Rattle.components.proofs.Nodes.{node_bound}
use Rattle.book.specs.declared.layout.Layout.{Layout}
use Rattle.book.specs.Layouts.{branch_rows, link_rows, layout_table, choice_of}
use Rattle.book.specs.Listed.{link_of}
use Rattle.book.proofs.Layouts.{law, branches_are, branches_within, branch_is}

module _ (f : Layout) where
  -- the node of a state is one of the nodes
  pub node_within : (u : ℕ) → u < (layout_table f).states → node_of (layout_table f) u < nodes (layout_table f)
  node_within u h = node_bound (layout_table f) (law f) (node_of (layout_table f) u) u h refl

  module _ (s c : ℕ) (h : s < (layout_table f).states) (k : c < (layout_table f).choices s) where
    abbrev nodes_of : ℕ × ℕ → ℕ × ℕ
    nodes_of = link_of (λ u. get_or (vec_items f.lists.parts.node) u 0)

    pub links_within : (choice_of f s c).first + (choice_of f s c).count ≤ length (link_rows f)
    links_within =
        let e = ap length f.held.links_are ∙ length-map (branch_rows f) nodes_of in
        let w = branches_within f s h c k in
        omega arith

    -- a branch with the node of its successor
    pub link_is : (b : ℕ) → b < (layout_table f).branches s c
        → get_or {A = ℕ × ℕ} (link_rows f) ((choice_of f s c).first + b) (0, 0) ≡ link_of (node_of (layout_table f)) ((layout_table f).branch s c b)
    link_is b l =
        let i : ℕ = (choice_of f s c).first + b in
        let e = branches_are f s h c k in
        let w = branches_within f s h c k in
        ap (λ (xs : List (ℕ × ℕ)). get_or xs i (0, 0)) f.held.links_are
        ∙ get_or-map nodes_of (branch_rows f) i (0, 0) (0, 0) (omega arith)
        ∙ ap nodes_of (sym (branch_is f s h c k b l))
        ∙ ap (λ (v : ℕ). (v, weight (layout_table f) s c b))
        (f.held.node_at (successor (layout_table f) s c b) ((law f).successors s c b h k l))
