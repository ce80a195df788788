use Rattle.shared_router.proofs.Overdue.{has_link}
use Rattle.shared_router.proofs.gives_up.spares_who_has_a_link.Goals as goal

pub returns : goal.returns
returns c = λ k servers until_ms now_ms m route overdue none. has_link k servers until_ms now_ms m route overdue none
