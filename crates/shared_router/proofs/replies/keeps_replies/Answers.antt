use Rattle.shared_router.proofs.Replying.{replies_kept}
use Rattle.shared_router.proofs.replies.keeps_replies.Goals as goal

pub returns : goal.returns
returns c = λ fixed log numbered our. replies_kept fixed numbered log our
