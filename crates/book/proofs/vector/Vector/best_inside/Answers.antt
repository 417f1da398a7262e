use Rattle.std.proofs.Common.{◌≡◌, ℕ, true, false, ℤ, sym, ◌∙◌, w64, SFits, rules}
use Rattle.std.proofs.lemmas.Int.{to_z-of_z}
use Rattle.table.specs.Table.{Table}
use Rattle.components.specs.Inside.{inside}
use Rattle.horizon.specs.Means.{Rounding, round_down, round_up}
use Rattle.rules.specs.Refine.{worth}
use Rattle.rules.specs.Setting.{setting_of}
use Rattle.rules.specs.Sweep.{better}
use Rattle.book.specs.Vectors.{vector_table, numbers}
use Rattle.book.proofs.Insides.{by_choice, more_inside, more_leaving}
use Rattle.book.proofs.vector.Vector.best_inside.Goals as goal
use Rattle.book.proofs.vector.Vector.best_inside.Goals.{then-is_inside, else-is_inside}

pub loop-choice-preserved : goal.loop-choice-preserved
loop-choice-preserved c =
    let T : Table = vector_table c.args.self.now in
    let s : ℕ = c.args.state in
    let n : ℕ = c.loop-choice.choice in
    let by : Rounding → ℕ → ℤ = λ r. worth (setting_of T) r (numbers c.args.self.now) s in
    elim c.if-is_inside.branch [
      | then-is_inside w ↦ (
          let i : inside T s n ≡ true = sym c.is_inside.ensures ∙ w.if-is_inside.true in
          let fu : SFits w64 w.worths-above.result.0 = search rules in
          let fl : SFits w64 w.worths-above.result.1 = search rules in
          let u : w.improved-upper.result ≡ better c.loop-choice.upper (by_choice s n w.worths-above.result.0) = simp to_z-of_z at w.improved-upper.ensures in
          let l : w.improved-lower.result ≡ better c.loop-choice.lower (by_choice s n w.worths-above.result.1) = simp to_z-of_z at w.improved-lower.ensures in (
            w.upper-is ∙ u ∙ more_inside T (by round_up) s n c.loop-choice.upper c.loop-choice.invariant.0 w.worths-above.result.0 i w.worths-above.ensures.upper,
            w.lower-is ∙ l ∙ more_inside T (by round_down) s n c.loop-choice.lower c.loop-choice.invariant.1 w.worths-above.result.1 i w.worths-above.ensures.lower,
          ))
      | else-is_inside w ↦ (
          let i : inside T s n ≡ false = sym c.is_inside.ensures ∙ w.if-is_inside.false in (
            w.upper-is ∙ more_leaving T (by round_up) s n c.loop-choice.upper c.loop-choice.invariant.0 i,
            w.lower-is ∙ more_leaving T (by round_down) s n c.loop-choice.lower c.loop-choice.invariant.1 i,
          ))
    ]
