use Rattle.shared_core.specs.Stands.{tables}
use Rattle.shared_core.specs.Follows.{HasGiven}
use Rattle.core_policy.specs.declared.verdict.GiveUp.{GiveUp}
use Rattle.std.specs.Prelude.{Option}
use Rattle.std.proofs.Common.{subst, sym}
use Rattle.shared_core.proofs.Givings.{none-given, one-given}
use Rattle.shared_core.proofs.router.Router.gives.Goals as goal

pub returns-in_ok-gives_up-in-Some-clause-gives : goal.returns-in_ok-gives_up-in-Some-clause-gives
returns-in_ok-gives_up-in-Some-clause-gives c = rw c.in-Some.is (one-given _ _ _ c.in_ok-gives_up-in-Some.ensures.answers)

pub returns-in-None-clause-gives : goal.returns-in-None-clause-gives
returns-in-None-clause-gives c = rw c.in-None.is (none-given (tables c.args.self.now))
