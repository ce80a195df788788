use Rattle.shared_router.proofs.Calming.{calms_kept}
use Rattle.shared_router.proofs.rests.waits_when_calm.Goals as goal

pub returns : goal.returns
returns c = λ fixed log numbered our. calms_kept fixed numbered log our.ours our.fits
