use Rattle.std.specs.Prelude.{[]}
use Rattle.std.proofs.Common.{refl}
use Rattle.shared_router.specs.Shared.{final_terms}
use Rattle.shared_router.proofs.Abiding.{words_kept}
use Rattle.shared_router.proofs.Answering.{answers_from}
use Rattle.shared_router.proofs.Fronted.{due_kept}
use Rattle.shared_router.proofs.Furthering.{until_along}
use Rattle.shared_router.proofs.Onwards.{goes_from}
use Rattle.shared_router.proofs.Replying.{replies_kept}
use Rattle.shared_router.proofs.replies.writes_answers_that_stay.Goals as goal

pub returns : goal.returns
returns c = λ fixed log numbered our.
    due_kept fixed log our.ours our.fits
    (goes_from (final_terms fixed log) [] log (until_along (final_terms fixed log) log (answers_from fixed [] log log refl (replies_kept fixed numbered log our)))
    (words_kept fixed numbered log our))
