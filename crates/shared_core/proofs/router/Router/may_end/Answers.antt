use Rattle.shared_core.specs.Stands.{tables}
use Rattle.shared_core.proofs.Goings.{may-so}
use Rattle.shared_core.proofs.router.Router.may_end.Goals as goal

pub returns-in-Some : goal.returns-in-Some
returns-in-Some c = λ is. may-so c.args.client (tables c.args.self.now) c.in-Some.row.now c.in-Some.ensures (c.may_leave.ensures is)
