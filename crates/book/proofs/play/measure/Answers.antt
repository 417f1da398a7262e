use Rattle.std.proofs.Common.{◌≡◌, ℕ, ◌+◌, ◌<◌, ◌≤◌, Bool, true, false, eqb, Some, List, Option, length, get_or, set, drop, filter, sym, ◌∙◌, subst, ⊎_elim, arith, length-set, below_more}
use Rattle.std.specs.List.{range_with_len}
use Rattle.std.proofs.lemmas.Bool.{both_ways, cases_lt, eqb-true, eq-eqb}
use Rattle.std.proofs.lemmas.List.{drop_more, drop_all}
use Rattle.table.specs.Table.{Table}
use Rattle.table.specs.Limits.{Lawful}
use Rattle.components.specs.Nodes.{node_of}
use Rattle.rules.specs.Play.{distance}
use Rattle.book.specs.Layouts.{layout_table}
use Rattle.book.specs.Plays.{first_into}
use Rattle.book.proofs.Distances as steps
use Rattle.book.proofs.Distances.{Partly}
use Rattle.book.proofs.Layouts.{law}
use Rattle.book.proofs.Members.{NextPasses, next_passes, none_passes, member_of}
use Rattle.book.proofs.play.measure.Goals as goal
use Rattle.book.proofs.play.measure.Goals.{then-fresh, else-fresh}

pub loop-round-init : goal.loop-round-init
loop-round-init c =
    steps.starts (layout_table c.args.layout.now) (law c.args.layout.now) c.args.target c.args.node c.unmark.new.distances
    (omega (arith, c.requires.room, c.unmark.auto.distances)) c.requires.known c.unmark.ensures

module _ (T : Table) (L : Lawful T) (t v k i s m : ℕ) (ms : List ℕ) (distances : List (Option ℕ)) (sum : s + m ≡ T.states)
    (left : drop i ms ≡ filter (λ u. eqb (node_of T u) v) (range_with_len s m)) (p : Partly T v t k s distances) where
  abbrev of_node : ℕ → Bool
  of_node u = eqb (node_of T u) v

  -- the next member, where one is left: no state of the node stands between
  next_member : i < length ms → NextPasses of_node s m (get_or ms i 0) (drop (i + 1) ms)
  next_member l = next_passes of_node s m (get_or ms i 0) (drop (i + 1) ms) (sym (drop_more ms i 0 l) ∙ left)

  up_to_member : (l : i < length ms) → Partly T v t k (get_or ms i 0) distances
  up_to_member l =
      let n = next_member l in
      steps.skip T L t v k s (get_or ms i 0) distances p n.least
      (λ u a b e. both_ways (of_node u) (n.none u a b) (eq-eqb (node_of T u) v e))

  -- and where none is left
  none_left : length ms ≤ i → (u : ℕ) → s ≤ u → u < T.states → node_of T u ≡ v → ⊥
  none_left l u a b e =
      both_ways (of_node u) (none_passes of_node s m (sym (drop_all i ms l) ∙ left) u a (omega arith)) (eq-eqb (node_of T u) v e)

  up_to_end : length ms ≤ i → Partly T v t k T.states distances
  up_to_end l = steps.skip T L t v k s T.states distances p (omega arith) (none_left l)

pub loop-state-init : goal.loop-state-init
loop-state-init c =
    (0, (layout_table c.args.layout.now).states, omega arith, c.members_of-members.ensures, c.loop-round.invariant, λ q u l. absurd (omega arith))

pub loop-state-preserved : goal.loop-state-preserved
loop-state-preserved c =
    let z = length-set c.unmark.new.distances c.args.target (Some 0) in
    let T : Table = layout_table c.args.layout.now in
    let L = (law c.args.layout.now) in
    let t : ℕ = c.args.target in
    let v : ℕ = c.args.node in
    let k : ℕ = c.loop-round.round in
    let ms : List ℕ = c.members_of-members.result.now in
    let i : ℕ = c.loop-state.state-index in
    let s : ℕ = get_or ms i 0 in
    let distances : List (Option ℕ) = c.loop-state.distances in
    let w = c.loop-state.invariant in
    let here : i < length ms = omega arith in
    let x = next_member T L t v k i w.0 w.1 ms distances w.2 w.3 w.4 here in
    let h : s < T.states = omega (arith, x.within, w.2) in
    let e : node_of T s ≡ v = eqb-true (node_of T s) v x.passes in
    let l : k < T.states = omega arith in
    let m : T.states ≤ length distances = omega (arith, c.loop-state.auto.distances, c.loop-round.auto.distances, z, c.requires.room, c.unmark.auto.distances) in
    let p : Partly T v t k s distances = up_to_member T L t v k i w.0 w.1 ms distances w.2 w.3 w.4 here in
    let before : c.loop-state.further ≡ false → (u : ℕ) → u < s → node_of T u ≡ v → distance T t u ≡ k + 1 → ⊥ =
    (λ q u a b.
    ⊎_elim
    (λ (y : u < w.0). w.5 q u y b)
    (λ (y : w.0 ≤ u). absurd (both_ways (eqb (node_of T u) v) (x.none u y a) (eq-eqb (node_of T u) v b)))
    (cases_lt u w.0)) in
    let new : Partly T v t k (s + 1) c.if-fresh.distances
    × (c.if-fresh.further ≡ false → (u : ℕ) → u < s + 1 → node_of T u ≡ v → distance T t u ≡ k + 1 → ⊥) =
    elim c.if-fresh.branch [
      | then-fresh w ↦ (
          let found : c.fresh.result ≡ true = cc in
          let y = c.fresh.ensures.found found in
          let d : distance T t s ≡ k + 1 = steps.hit T L t v k s distances p h e l y.0 y.1 in
          let a : c.if-fresh.distances ≡ set distances s (Some (k + 1)) = cc in
          let g : c.if-fresh.further ≡ true = cc in
          (subst (λ (xs : List (Option ℕ)). Partly T v t k (s + 1) xs) (sym a) (steps.marked T L t v k s distances p h m d), λ q. absurd (both_ways c.if-fresh.further q g)))
      | else-fresh w ↦ (
          let missed : c.fresh.result ≡ false = cc in
          let a : c.if-fresh.distances ≡ distances = cc in
          let g : c.if-fresh.further ≡ c.loop-state.further = cc in
          let none : node_of T s ≡ v → distance T t s ≡ k + 1 → ⊥ = (λ i d.
          ⊎_elim
          (λ (f : first_into T distances k s < T.choices s). c.fresh.ensures.missed missed (steps.unmarked T L t v k s distances p h i d, f))
          (λ (f : T.choices s ≤ first_into T distances k s). steps.miss T L t v k s distances p h i l f d)
          (cases_lt (first_into T distances k s) (T.choices s))) in (
            subst (λ (xs : List (Option ℕ)). Partly T v t k (s + 1) xs) (sym a) (steps.kept T L t v k s distances p none),
            λ q. below_more (λ (u : ℕ). node_of T u ≡ v → distance T t u ≡ k + 1 → ⊥) s (before (sym g ∙ q)) none,
          ))
    ] in
    (s + 1, x.left, omega (arith, x.ends, w.2), x.rest, new.0, new.1)

pub fresh-requires : goal.fresh-requires
fresh-requires c =
    record { known = (member_of (layout_table c.args.layout.now) c.args.node c.members_of-members.result.now c.members_of-members.ensures c.loop-state.state-index (omega arith)).0 }

pub loop-round-preserved : goal.loop-round-preserved
loop-round-preserved c =
    let w = c.loop-state.invariant in
    let T : Table = layout_table c.args.layout.now in
    let ms : List ℕ = c.members_of-members.result.now in
    let last : length ms ≤ c.loop-state.state-index = omega arith in
    steps.next T (law c.args.layout.now) c.args.target c.args.node c.loop-round.round c.loop-state.distances
    (up_to_end T (law c.args.layout.now) c.args.target c.args.node c.loop-round.round c.loop-state.state-index w.0 w.1 ms c.loop-state.distances w.2 w.3 w.4 last)

pub returns-then-not-further : goal.returns-then-not-further
returns-then-not-further c =
    let T : Table = layout_table c.args.layout.now in
    let L = law c.args.layout.now in
    let t : ℕ = c.args.target in
    let v : ℕ = c.args.node in
    let k : ℕ = c.loop-round.round in
    let i : ℕ = c.loop-state.state-index in
    let ms : List ℕ = c.members_of-members.result.now in
    let distances : List (Option ℕ) = c.loop-state.distances in
    let w = c.loop-state.invariant in
    let last : length ms ≤ i = omega arith in
    let g : c.loop-state.further ≡ false = cc in
    steps.done T L t v c.requires.known c.requires.home k distances
    (up_to_end T L t v k i w.0 w.1 ms distances w.2 w.3 w.4 last)
    (λ u h e.
    ⊎_elim
    (λ (y : u < w.0). w.5 g u y e)
    (λ (y : w.0 ≤ u). absurd (none_left T L t v k i w.0 w.1 ms distances w.2 w.3 w.4 last u y h e))
    (cases_lt u w.0))

pub returns : goal.returns
returns c =
    let n = c.states-round-end.ensures.count in
    let T : Table = layout_table c.args.layout.now in
    let t : ℕ = c.args.target in
    let v : ℕ = c.args.node in
    let q : c.loop-round.round ≡ T.states = omega arith in
    steps.all T (law c.args.layout.now) t v c.requires.known c.requires.home c.loop-round.distances
    (subst (λ (x : ℕ). Partly T v t x 0 c.loop-round.distances) q c.loop-round.invariant)
