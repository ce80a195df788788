use Rattle.shared_router.proofs.Allowed.{users_so}
use Rattle.shared_router.proofs.Growing.{who_kept}
use Rattle.shared_router.proofs.Opening.{opens_kept}
use Rattle.shared_router.proofs.links.opens_for_those_who_wait.Goals as goal

pub returns : goal.returns
returns c = λ fixed log numbered our who. opens_kept fixed numbered log (users_so fixed numbered log our (who_kept fixed log who)) our.ours our.fits
