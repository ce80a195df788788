use Rattle.std.specs.Prelude.{take}
use Rattle.shared_core.specs.Follows.{AreAllHomes}
use Rattle.shared_core.specs.Stands.{tables}
use Rattle.shared_core.proofs.router.Router.all_homes_of.Given as goal

abbrev pub invariant-loop-client : goal.invariant-loop-client
invariant-loop-client l = AreAllHomes (take l.client-index l.clients) l.homes.items (tables l.self)
