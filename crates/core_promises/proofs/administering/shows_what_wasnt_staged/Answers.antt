use Rattle.core_promises.proofs.Made.{reads_staged}
use Rattle.core_promises.proofs.administering.shows_what_wasnt_staged.Goals as goal

pub returns : goal.returns
returns c = λ text was is reply query answer reads other. other answer.running (reads_staged text was is reply query answer reads)
