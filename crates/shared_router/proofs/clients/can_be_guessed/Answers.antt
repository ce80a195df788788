use Rattle.shared_router.proofs.Fitting.{accounts_by, fits_so, places_by}
use Rattle.shared_router.proofs.clients.can_be_guessed.Goals as goal

pub returns : goal.returns
returns c = λ fixed log. (accounts_by fixed log, places_by fixed log, fits_so fixed log)
