use Rattle.shared_core.specs.Stands.{tables}
use Rattle.shared_core.proofs.Callings.{given_along, none_given}
use Rattle.shared_core.proofs.Keeping.{keeps_along, keeps_still}
use Rattle.shared_core.proofs.router.Router.gives_late.Goals as goal

pub loop-up-init : goal.loop-up-init
loop-up-init c = record { gives = none_given c.args.wait_ms c.args.now_ms c.args.came _ _ (tables c.args.self.now); keeps = keeps_still _ }

pub loop-up-preserved : goal.loop-up-preserved
loop-up-preserved c = record {
  gives = given_along c.args.wait_ms c.args.now_ms c.args.came _ _ _ _ _ _ _ _ c.loop-up.invariant.keeps.texts.noted c.loop-up.invariant.gives c.in_ok-gives_one.ensures.gives;
  keeps = keeps_along _ _ _ c.in_ok-gives_one.ensures.keeps c.loop-up.invariant.keeps;
}

pub returns-clause-gives : goal.returns-clause-gives
returns-clause-gives c = c.loop-up.invariant.gives

pub returns-clause-keeps : goal.returns-clause-keeps
returns-clause-keeps c = c.loop-up.invariant.keeps
