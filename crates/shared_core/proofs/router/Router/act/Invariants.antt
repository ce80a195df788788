use Rattle.shared_core.proofs.Acting.{AsksNone}
use Rattle.shared_core.proofs.router.Router.act.Given as goal

abbrev pub invariant-asked : goal.invariant-asked
invariant-asked l = AsksNone l.fn.self l.self
