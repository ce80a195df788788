use Rattle.core_promises.proofs.Done.{neither, served-at}
use Rattle.core_promises.proofs.waiting.leaves_bytes_unread.Goals as goal

pub returns : goal.returns
returns c = λ terms before client wait goes wet few. neither _ _ wet few (served-at terms before client wait goes).read
