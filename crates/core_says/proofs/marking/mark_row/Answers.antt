use Rattle.std.proofs.Common.{subst}
use Rattle.std.specs.Prelude.{List, []}
use Rattle.client_desk.specs.declared.session.Session.{Session}
use Rattle.core_says.specs.Marking.{AreMarked}
use Rattle.core_says.proofs.Links.{marked_for}
use Rattle.core_says.proofs.marking.mark_row.Goals as goal

pub returns : goal.returns
returns c =
    marked_for c.args.row.now c.args.marks.now c.mark_at.new.marks c.mark_at-2.new.marks c.mark_homes.new.marks c.mark_at.ensures c.mark_at-2.ensures
    (subst (λ (sessions : List Session). AreMarked [] sessions c.mark_at-2.new.marks c.mark_homes.new.marks) c.as_slice.ensures c.mark_homes.ensures)
