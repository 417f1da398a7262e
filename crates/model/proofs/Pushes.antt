-- What a push leaves that was unwrapped.
use Rattle.std.proofs.Common.{◌≡◌, List, Ok, Result, ap, ◌∙◌}
use Rattle.std.specs.Prelude.{if◌then◌else◌, is_ok}

pub pushed : {X U E : Type 0} (r : Result U E) (u : U) (xs ys zs : List X) → r ≡ Ok u → ys ≡ (if is_ok r then zs else xs) → ys ≡ zs
pushed r u xs ys zs e h = h ∙ ap (λ q. if is_ok q then zs else xs) e
