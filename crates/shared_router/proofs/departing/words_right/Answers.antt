use Rattle.shared_router.proofs.LastWords.{words-along}
use Rattle.shared_router.proofs.departing.words_right.Goals as goal

pub returns : goal.returns
returns c = λ fixed log numbered fits. words-along fixed numbered log fits
