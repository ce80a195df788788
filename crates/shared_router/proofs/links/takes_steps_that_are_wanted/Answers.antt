use Rattle.std.proofs.Common.{arith}
use Rattle.shared_router.proofs.Needing.{leads_kept}
use Rattle.shared_router.proofs.links.takes_steps_that_are_wanted.Goals as goal

pub returns : goal.returns
returns c = λ fixed log numbered ids nothing our. let bounded = our.bounded in leads_kept fixed numbered ids nothing log (omega (arith, bounded)) our.ours our.fits
