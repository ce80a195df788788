use Rattle.shared_core.specs.Stands.{tables}
use Rattle.shared_core.proofs.Callings.{none_given, one_given}
use Rattle.shared_core.proofs.Keeping.{keeps_still}
use Rattle.shared_core.proofs.router.Router.gives_one.Goals as goal

pub returns-in_ok-gives_up-clause-gives : goal.returns-in_ok-gives_up-clause-gives
returns-in_ok-gives_up-clause-gives c =
    one_given c.args.wait_ms c.args.now_ms c.args.came _ _ _ c.args.up _ _ (c.may_be_late.ensures.late c.if-may_be_late.true)
    (c.may_be_late.ensures.waits c.if-may_be_late.true) c.in_ok-gives_up.ensures.answers c.add.ensures.added c.add.ensures.kept

pub returns-else-may_be_late-clause-gives : goal.returns-else-may_be_late-clause-gives
returns-else-may_be_late-clause-gives c = none_given c.args.wait_ms c.args.now_ms c.args.came _ _ (tables c.args.self.now)

pub returns-else-may_be_late-clause-keeps : goal.returns-else-may_be_late-clause-keeps
returns-else-may_be_late-clause-keeps c = keeps_still _
