use Rattle.std.specs.Prelude.{◌≡◌, take}
use Rattle.shared_core.specs.Follows.{known_in}
use Rattle.shared_core.specs.Stands.{tables}
use Rattle.shared_core.proofs.router.Router.known_of.Given as goal

abbrev pub invariant-loop-link : goal.invariant-loop-link
invariant-loop-link l = l.known.items ≡ known_in (tables l.self) (take l.link-index l.links)
