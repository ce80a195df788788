use Rattle.core_promises.proofs.Done.{work-at}
use Rattle.core_promises.proofs.waiting.leaves_a_message_unanswered.Goals as goal

pub returns : goal.returns
returns c = λ terms before client wait goes open_yet nowhere. work-at terms before client _ wait goes open_yet nowhere
