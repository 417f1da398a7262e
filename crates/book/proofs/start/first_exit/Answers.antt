use Rattle.std.proofs.Common.{sym, ◌∙◌}
use Rattle.book.specs.Layouts.{layout_table}
use Rattle.book.proofs.Layouts.{law}
use Rattle.book.proofs.Starts.{first_member, exit_leaves}
use Rattle.book.proofs.start.first_exit.Goals as goal

pub bounds-members-0 : goal.bounds-members-0
bounds-members-0 c = (first_member (layout_table c.args.layout.now) (law c.args.layout.now) c.args.node c.requires.known c.members_of-members.result.now c.members_of-members.ensures).0

pub returns-in-None : goal.returns-in-None
returns-in-None c =
    exit_leaves (layout_table c.args.layout.now) c.args.node _
    (sym c.component_at.ensures ∙ c.in-None.is)
    (first_member (layout_table c.args.layout.now) (law c.args.layout.now) c.args.node c.requires.known c.members_of-members.result.now c.members_of-members.ensures).1
