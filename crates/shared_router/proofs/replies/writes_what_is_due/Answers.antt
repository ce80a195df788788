use Rattle.shared_router.proofs.Fronted.{due_kept}
use Rattle.shared_router.proofs.replies.writes_what_is_due.Goals as goal

pub returns : goal.returns
returns c = λ fixed log our on. due_kept fixed log our.ours our.fits on
