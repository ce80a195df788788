use Rattle.shared_router.proofs.Abiding.{words_kept}
use Rattle.shared_router.proofs.replies.keeps_last_words.Goals as goal

pub returns : goal.returns
returns c = λ fixed log numbered our. words_kept fixed numbered log our
