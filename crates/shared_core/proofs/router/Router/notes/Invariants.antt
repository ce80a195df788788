use Rattle.shared_core.specs.Noted.{HasNoted}
use Rattle.shared_core.proofs.router.Router.notes.Given as goal

abbrev pub invariant-noting : goal.invariant-noting
invariant-noting l = HasNoted l.fn.self l.self
