use Rattle.core_laws.proofs.OfTaking.Standing.{next_so}
use Rattle.core_laws.proofs.taking.taken.next_is_taken.Goals as goal

pub returns : goal.returns
returns c = λ g t client row is. next_so g client is.up.message is.up.next.next is.up.up
