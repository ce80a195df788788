use Rattle.shared_core.proofs.Givings.{aside-so}
use Rattle.shared_core.specs.Stands.{tables}
use Rattle.shared_core.proofs.router.Router.is_aside.Goals as goal

pub returns-then-is_lent_no_other : goal.returns-then-is_lent_no_other
returns-then-is_lent_no_other c = λ is.
    aside-so c.args.link c.args.client (tables c.args.self.now) (c.is_lent_no_other.ensures c.if-is_lent_no_other.true) (c.is_aside.ensures is)
