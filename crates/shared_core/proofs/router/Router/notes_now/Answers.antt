use Rattle.shared_core.proofs.Notes.{noted_now}
use Rattle.shared_core.proofs.router.Router.notes_now.Goals as goal

pub returns : goal.returns
returns c =
    noted_now c.routers_note.ensures c.args.self.now c.note.new.self c.args.client c.args.ordinal c.requires c.in_ok-note.ensures.last
    c.in_ok-note.ensures.same c.in_ok-note.ensures.noted
