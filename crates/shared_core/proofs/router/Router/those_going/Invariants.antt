use Rattle.std.specs.Prelude.{◌≡◌, ◌++◌}
use Rattle.std.specs.BTreeSet.{keys}
use Rattle.shared_core.specs.Stands.{tables}
use Rattle.shared_core.specs.Wakes.{going_in}
use Rattle.shared_core.proofs.router.Router.those_going.Given as goal

abbrev pub invariant-loop-number : goal.invariant-loop-number
invariant-loop-number l = l.clients.items ++ going_in (tables l.self) l.number-iterator ≡ going_in (tables l.self) (keys l.numbers)
