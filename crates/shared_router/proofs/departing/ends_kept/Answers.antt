use Rattle.shared_router.proofs.Parted.{parted-along}
use Rattle.shared_router.proofs.departing.ends_kept.Goals as goal

pub returns : goal.returns
returns c = λ fixed log numbered ours. parted-along fixed numbered log ours.ours ours.fits
