use Rattle.shared_router.proofs.Grouping.{stands_by}
use Rattle.shared_router.proofs.Tagging.{tags_kept}
use Rattle.shared_router.proofs.is_tagged.Goals as goal

pub returns : goal.returns
returns c = λ fixed log numbered our. tags_kept fixed numbered log (stands_by fixed numbered log our) our.ours our.fits
