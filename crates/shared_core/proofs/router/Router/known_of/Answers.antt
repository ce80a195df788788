use Rattle.std.proofs.Common.{arith}
use Rattle.shared_core.specs.Stands.{tables}
use Rattle.shared_core.proofs.Homes.{known-all, known-next}
use Rattle.shared_core.proofs.router.Router.known_of.Goals as goal

pub loop-link-preserved : goal.loop-link-preserved
loop-link-preserved c =
    known-next _ (tables c.args.self.now) c.args.links.now c.loop-link.link-index _ _ (omega (arith, c.loop-link-test.true)) c.loop-link.invariant
    c.in_ok-keep_known.ensures

pub returns : goal.returns
returns c =
    known-all (tables c.args.self.now) c.args.links.now c.loop-link.link-index _ (omega (arith, c.loop-link-test.false)) c.loop-link.invariant
