use Rattle.std.proofs.Common.{◌≡◌, ℕ, ◌^◌, ◌<◌, ◌≤◌, List, length, ℤ, true, false, sym, ap, ◌∙◌, arith}
use Rattle.components.specs.Inside as choices
use Rattle.table.specs.Sums.{sum_n}
use Rattle.components.specs.Nodes.{node_of, nodes}
use Rattle.rules.specs.Setting.{Setting}
use Rattle.table.specs.Table.{Table}
use Rattle.horizon.specs.Means.{round_down, round_up}
use Rattle.book.specs.SideBounds.{bounds_table, bounds_setting, upper_means, lower_means}
use Rattle.book.specs.Layouts.{denominator_of, layout_table}
use Rattle.book.specs.RunSums.{place_at, weight_at, run_sum}
use Rattle.book.specs.declared.layout.Layout.{Layout}
use Rattle.book.proofs.Exits.{inside_more, leaving_more}
use Rattle.book.proofs.Layouts.{law}
use Rattle.book.proofs.Links.{node_within}
use Rattle.book.proofs.Runs.{run_within, run_light, run_total}
use Rattle.book.proofs.side_bounds.SideBounds.best_choices.Goals as goal
use Rattle.book.proofs.side_bounds.SideBounds.best_choices.Goals.{After-links_of-run, then-not-is_inside, else-not-is_inside}

-- the links of the choice lead to nodes, and their weights are not too large
module _ (c : After-links_of-run) where
  abbrev f : Layout
  f = c.args.self.now.layout.now

  abbrev run : List (ℕ × ℕ)
  run = c.links_of-run.result.now

  known : c.loop-choice.choice < (layout_table f).choices c.args.state
  known = let n = c.choices-choice-end.ensures in omega arith

  inside : (n : ℕ) → n ≡ nodes (layout_table f) → (b : ℕ) → b < length run → place_at run b < n
  inside n e =
      run_within (layout_table f) (law f) c.args.state c.loop-choice.choice c.requires known (node_of (layout_table f)) run c.links_of-run.ensures.size c.links_of-run.ensures.at
      n (λ u l. let m = node_within f u l in omega arith)

  light : sum_n (length run) (weight_at run) ≤ 2 ^ 16
  light = run_light (layout_table f) (law f) c.args.state c.loop-choice.choice c.requires known (node_of (layout_table f)) run c.links_of-run.ensures.size c.links_of-run.ensures.at

pub leave-upper-requires : goal.leave-upper-requires
leave-upper-requires c = record { inside = inside c.before (length c.args.self.now.x.now) c.args.self.now.x_size; light = light c.before; small = c.args.self.now.x_small }

pub leave-lower-requires : goal.leave-lower-requires
leave-lower-requires c =
    record { inside = inside c.before.before.before (length c.args.self.now.y.now) c.args.self.now.y_size; light = light c.before.before.before; small = c.args.self.now.y_small }

pub loop-choice-preserved : goal.loop-choice-preserved
loop-choice-preserved c =
    let bounds = c.args.self.now in
    let f : Layout = bounds.layout.now in
    let T : Table = bounds_table bounds in
    let M : Setting = bounds_setting bounds in
    let W : ℕ = denominator_of f in
    let s : ℕ = c.args.state in
    let i : ℕ = c.loop-choice.choice in
    let n = c.choices-choice-end.ensures in
    let k : i < T.choices s = omega arith in
    let up = c.loop-choice.invariant.0 in
    let low = c.loop-choice.invariant.1 in
    elim c.if-not-is_inside.branch [
      | then-not-is_inside w ↦ (
          let run = w.links_of-run.result.now in
          let total = run_total T (law f) s i c.requires k (node_of T) run w.links_of-run.ensures.size w.links_of-run.ensures.at in
          let out : choices.inside T s i ≡ false = sym c.is_inside.ensures ∙ w.if-not-is_inside.true in (
            w.upper-is ∙ w.leave-upper.ensures
                ∙ leaving_more M (upper_means bounds) s i c.args.upper c.loop-choice.upper up out (round_up (run_sum run bounds.x.now) W) (ap (λ (z : ℤ). round_up z W) (total bounds.x.now)),
            w.lower-is ∙ w.leave-lower.ensures
                ∙ leaving_more M (lower_means bounds) s i c.args.lower c.loop-choice.lower low out (round_down (run_sum run bounds.y.now) W) (ap (λ (z : ℤ). round_down z W) (total bounds.y.now)),
          ))
      | else-not-is_inside w ↦ (
          let within : choices.inside T s i ≡ true = sym c.is_inside.ensures ∙ w.if-not-is_inside.false in (
            w.upper-is ∙ inside_more M (upper_means bounds) s i c.args.upper c.loop-choice.upper up within,
            w.lower-is ∙ inside_more M (lower_means bounds) s i c.args.lower c.loop-choice.lower low within,
          ))
    ]
