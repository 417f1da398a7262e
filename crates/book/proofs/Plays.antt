-- What a state plays, by the exit of its node.
use Rattle.std.proofs.Common.{◌≡◌, ℕ, cond, eqb, List, sym, refl, ap, ◌∙◌}
use Rattle.table.specs.Table.{Table}
use Rattle.components.specs.Nodes.{node_of}
use Rattle.rules.specs.Choosing.{at}
use Rattle.rules.specs.Book.{Book, exit_at}
use Rattle.rules.specs.Play.{toward, play}
use Rattle.rules.specs.declared.exit.Exit.{Exit}
use Rattle.rules.specs.declared.exit.Exit.TheVariants.{Stay, Leave}
use Rattle.book.specs.Plays.{play_by}

by_exit : (T : Table) (recorded : List ℕ) (s : ℕ) (e : Exit)
    → elim e [ Stay ↦ at recorded s | Leave t c ↦ cond (eqb s t) c (toward T t s) ] ≡ play_by T recorded e s
by_exit T recorded s Stay = refl
by_exit T recorded s (Leave t c) = refl

play-by : (T : Table) (B : Book) (s : ℕ) → play T B s ≡ play_by T B.recorded (exit_at B.plan (node_of T s)) s
unfolding play
play-by T B s = by_exit T B.recorded s (exit_at B.plan (node_of T s))

-- what is written from the book's recorded choices and exits is what the state plays
pub play_written : (T : Table) (B : Book) (s : ℕ) (recorded : List ℕ) (plan : List Exit) (x : ℕ)
    → x ≡ play_by T recorded (exit_at plan (node_of T s)) s → recorded ≡ B.recorded → plan ≡ B.plan → x ≡ play T B s
play_written T B s recorded plan x w a b =
    w ∙ ap (λ (r : List ℕ). play_by T r (exit_at plan (node_of T s)) s) a
    ∙ ap (λ (p : List Exit). play_by T B.recorded (exit_at p (node_of T s)) s) b
    ∙ sym (play-by T B s)
