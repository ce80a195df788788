use Rattle.shared_router.proofs.Closing.{closes_kept}
use Rattle.shared_router.proofs.links.closes_for_a_cause.Goals as goal

pub returns : goal.returns
returns c = λ fixed log numbered our. closes_kept fixed numbered log our.ours our.fits
