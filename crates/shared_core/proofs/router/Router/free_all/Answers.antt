use Rattle.std.proofs.Common.{arith, refl}
use Rattle.shared_core.proofs.Keeping.{keeps_along, keeps_still}
use Rattle.shared_core.proofs.Tabling.{freed_all, freed_next}
use Rattle.shared_core.proofs.router.Router.free_all.Goals as goal

pub loop-link-init : goal.loop-link-init
loop-link-init c = record { is = refl; keeps = keeps_still _ }

pub loop-link-preserved : goal.loop-link-preserved
loop-link-preserved c = record {
  is = freed_next _ c.args.links.now c.loop-link.link-index _ _ _ (omega (arith, c.loop-link-test.true)) c.loop-link.invariant.is c.free.ensures.is;
  keeps = keeps_along _ _ _ c.free.ensures.keeps c.loop-link.invariant.keeps;
}

pub returns-clause-is : goal.returns-clause-is
returns-clause-is c = freed_all c.args.links.now c.loop-link.link-index _ _ (omega (arith, c.loop-link-test.false)) c.loop-link.invariant.is

pub returns-clause-keeps : goal.returns-clause-keeps
returns-clause-keeps c = c.loop-link.invariant.keeps
