use Rattle.std.proofs.Common.{◌+◌, ◌*◌, false, ◌∙◌, arith}
use Rattle.std.proofs.lemmas.List.{get_or_default}
use Rattle.book.specs.Layouts.{inside_flags}
use Rattle.book.proofs.Layouts.{flag_is, flag_within}
use Rattle.book.proofs.layout.Layout.is_inside.Goals as goal

pub index-requires : goal.index-requires
index-requires c =
    let l = c.args.self.now in
    omega (arith, flag_within l c.args.state c.requires.state c.args.choice c.requires.choice, l.lists.parts.inside.ok.0)

pub returns : goal.returns
returns c =
    let l = c.args.self.now in
    c.index.ensures
    ∙ get_or_default (inside_flags l) (16 * c.args.state + c.args.choice) c.index.result.now false (flag_within l c.args.state c.requires.state c.args.choice c.requires.choice)
    ∙ flag_is l c.args.state c.requires.state c.args.choice c.requires.choice
