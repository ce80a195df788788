use Rattle.shared_core.specs.Stands.{tables}
use Rattle.shared_core.proofs.Homes.{homes-of}
use Rattle.shared_core.proofs.router.Router.homes_of.Goals as goal

pub returns : goal.returns
returns c =
    homes-of c.args.clients.now _ _ (tables c.args.self.now) c.in_ok-homes.ensures (rw c.as_slice.ensures.value at c.in_ok-known.ensures)
