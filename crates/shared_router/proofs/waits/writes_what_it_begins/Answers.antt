use Rattle.shared_router.proofs.Finishing.{are_whole}
use Rattle.shared_router.proofs.waits.writes_what_it_begins.Goals as goal

pub returns : goal.returns
returns c = λ fixed log numbered our. are_whole fixed numbered log our (c.executes_read_as_spelt.ensures fixed log numbered our)
