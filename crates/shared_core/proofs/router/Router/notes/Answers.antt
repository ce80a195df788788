use Rattle.std.proofs.Common.{refl}
use Rattle.shared_core.proofs.Notes.{noted_along, noted_from}
use Rattle.shared_core.proofs.router.Router.notes.Goals as goal

pub noting-preserved : goal.noting-preserved
noting-preserved c =
    noted_along c.args.self.now c.noting.self c.notes_one.new.self c.noting.invariant
    (noted_from c.noting.self _ c.notes_one.new.self refl c.in_ok-notes_one-in-Some.ensures)
