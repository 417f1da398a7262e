use Rattle.std.proofs.Common.{true, replicate, ap, ◌∙◌, rules}
use Rattle.decomposition.proofs.kept.Kept.fill.Goals as goal

pub returns : goal.returns
returns c = c.fill.ensures.items (λ y e. search rules) ∙ ap (λ n. replicate n true) (c.args.self.now.flags.ok.0 ∙ c.args.self.now.size)
