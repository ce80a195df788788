use Rattle.shared_core.proofs.Settles.{HasSettled}
use Rattle.shared_core.proofs.router.Router.settle.Given as goal

abbrev pub invariant-deeds : goal.invariant-deeds
invariant-deeds l = HasSettled l.fn.self l.self
