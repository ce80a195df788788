use Rattle.std.proofs.Common.{arith}
use Rattle.shared_router.proofs.Sending.{sends_kept}
use Rattle.shared_router.proofs.links.sends_what_is_due.Goals as goal

pub returns : goal.returns
returns c = λ fixed log numbered our. let bounded = our.bounded in sends_kept fixed numbered log (omega (arith, bounded)) our.ours our.fits
