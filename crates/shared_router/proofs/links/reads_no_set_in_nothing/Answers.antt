use Rattle.shared_router.proofs.Blank.{reads_nothing}
use Rattle.shared_router.proofs.links.reads_no_set_in_nothing.Goals as goal

pub returns : goal.returns
returns c = reads_nothing
