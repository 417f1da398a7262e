use Rattle.std.proofs.Common.{◌≡◌, ℕ, List, take, drop, ap, ◌∙◌}
use Rattle.sources.specs.declared.list.ChoiceRow.{ChoiceRow}
use Rattle.book.specs.Layouts.{link_rows, choice_of}
use Rattle.book.proofs.Layouts.{cut_size, cut_at}
use Rattle.book.proofs.Links.{links_within, link_is}
use Rattle.book.proofs.layout.Layout.links_of.Goals as goal

pub run_in-requires : goal.run_in-requires
run_in-requires c = rw (c.choice.ensures, c.deref.ensures.value) (links_within c.args.self.now c.args.state c.args.choice c.requires.state c.requires.choice)

module _ (c : goal.After-run_in) where
  cut : c.run_in.result.now ≡ take (choice_of c.args.self.now c.args.state c.args.choice).count (drop (choice_of c.args.self.now c.args.state c.args.choice).first (link_rows c.args.self.now))
  cut =
      let row = choice_of c.args.self.now c.args.state c.args.choice in
      c.run_in.ensures
      ∙ ap (λ (x : ChoiceRow). take x.count (drop x.first c.deref.result.now)) c.choice.ensures
      ∙ ap (λ (xs : List (ℕ × ℕ)). take row.count (drop row.first xs)) c.deref.ensures.value

pub returns : goal.returns
returns c =
    let l = c.args.self.now in
    let s : ℕ = c.args.state in
    let k : ℕ = c.args.choice in
    let h = c.requires.state in
    let j = c.requires.choice in
    let w = links_within l s k h j in
    record {
      size = cut_size l s h k j (link_rows l) c.run_in.result.now w (cut c);
      at = λ b m. cut_at l s h k j (link_rows l) c.run_in.result.now w (cut c) b m ∙ link_is l s k h j b m;
    }
