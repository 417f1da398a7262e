use Rattle.std.proofs.Common.{◌≡◌, replicate, ap, ◌∙◌, rules}
use Rattle.sources.specs.Rows.{no_state, no_choice}
use Rattle.quoting.proofs.room.Room.new.Goals as goal

pub returns-clause-states : goal.returns-clause-states
returns-clause-states c =
    let empty : c.default.result ≡ no_state = search rules in
    c.in_ok-vec.ensures.items_if_clones_equal (λ row same. same) ∙ ap (replicate 256) empty

pub returns-clause-choices : goal.returns-clause-choices
returns-clause-choices c =
    let empty : c.default-2.result ≡ no_choice = search rules in
    c.in_ok-vec-2.ensures.items_if_clones_equal (λ row same. same) ∙ ap (replicate 1024) empty
