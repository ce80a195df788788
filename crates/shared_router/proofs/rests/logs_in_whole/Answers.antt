use Rattle.shared_router.proofs.Greeting.{greets_kept}
use Rattle.shared_router.proofs.rests.logs_in_whole.Goals as goal

pub returns : goal.returns
returns c = λ fixed log numbered our says. greets_kept fixed numbered log says our.ours our.fits
