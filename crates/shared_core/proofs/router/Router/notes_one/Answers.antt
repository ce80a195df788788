use Rattle.shared_core.proofs.Notes.{noted_none}
use Rattle.shared_core.proofs.router.Router.notes_one.Goals as goal

pub returns-in-None : goal.returns-in-None
returns-in-None c = noted_none c.args.self.now
