use Rattle.std.proofs.Common.{rules}
use Rattle.std.proofs.lemmas.List.Elements.{same_from_all_zip}
use Rattle.decomposition.proofs.Marked.{cleared}
use Rattle.decomposition.proofs.bits.Square.clear.Goals as goal

pub returns : goal.returns
returns c = cleared _ c.fill.new.self.items (c.fill.ensures.items (λ y e. search (rules, same_from_all_zip)))
