use Rattle.std.proofs.Common.{arith}
use Rattle.shared_core.specs.Stands.{tables}
use Rattle.shared_core.proofs.Homes.{homes-all, homes-next}
use Rattle.shared_core.proofs.router.Router.all_homes_of.Goals as goal

pub loop-client-preserved : goal.loop-client-preserved
loop-client-preserved c =
    homes-next _ c.args.clients.now c.loop-client.client-index _ _ (tables c.args.self.now) (omega (arith, c.loop-client-test.true))
    c.loop-client.invariant c.in_ok-add_homes.ensures

pub returns : goal.returns
returns c =
    homes-all c.args.clients.now c.loop-client.client-index _ (tables c.args.self.now) (omega (arith, c.loop-client-test.false)) c.loop-client.invariant
