use Rattle.shared_core.proofs.Givings.{answered-as}
use Rattle.shared_core.proofs.Keeping.{same_chosen}
use Rattle.shared_core.proofs.router.Router.gives_up.Goals as goal

pub returns-clause-answers : goal.returns-clause-answers
returns-clause-answers c =
    answered-as c.args.client c.args.why _ _ _ _ c.as_slice.ensures.value c.in_ok-payload.ensures.is c.in_ok-payload.ensures.own
    (same_chosen _ _ _ c.changed.ensures c.in_ok-give_up.ensures.is)
