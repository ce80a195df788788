use Rattle.shared_router.proofs.Rereading.{reads_kept}
use Rattle.shared_router.proofs.words.executes_read_as_spelt.Goals as goal

pub returns : goal.returns
returns c = λ fixed log numbered our. reads_kept fixed numbered log our (c.is_lawful.ensures fixed log our)
