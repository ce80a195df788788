use Rattle.std.proofs.Common.{sym}
use Rattle.shared_core.proofs.router.Router.leaving.Goals as goal
use Rattle.shared_core.specs.Stands.{tables}

pub returns-in-Some : goal.returns-in-Some
returns-in-Some c = c.leaves_by.ensures c.args.client (tables c.args.self.now) (sym c.in-Some.ensures)

pub returns-in-None : goal.returns-in-None
returns-in-None c = sym c.in-None.ensures
