use Rattle.shared_core.specs.Stands.{tables}
use Rattle.shared_core.proofs.Keeping.{keeps_along}
use Rattle.shared_core.proofs.LinkLosses.{lost_ended}
use Rattle.shared_core.proofs.router.Router.loses_ended.Goals as goal

pub returns-clause-loses : goal.returns-clause-loses
returns-clause-loses c = λ held.
    lost_ended c.args.link c.args.client _ (tables c.args.self.now) _ _ _ c.loses.ensures.is c.in_ok-homes.ensures c.in_ok-ends.ensures.ends
    (rw c.as_slice.ensures.value at c.free_all.ensures.is) held

pub returns-clause-keeps : goal.returns-clause-keeps
returns-clause-keeps c =
    keeps_along _ _ _ c.free_all.ensures.keeps (keeps_along _ _ _ c.in_ok-ends.ensures.keeps c.loses.ensures.keeps)
