use Rattle.std.proofs.Common.{refl}
use Rattle.router_laws.specs.wakes.Settling.{States}
use Rattle.shared_core.proofs.Settles.{settles_so}
use Rattle.shared_core.proofs.router.Router.states.Goals as goal

pub returns-then-may_state-clause-settles : goal.returns-then-may_state-clause-settles
returns-then-may_state-clause-settles c =
    settles_so (States c.args.link c.args.name) c.args.self.now (record c.args.self.now { marked = c.begin_text.new.self }) (c.may_state.ensures c.if-may_state.true c.args.link (c.may_begin.ensures c.if-may_begin.true)) c.begin_text.ensures.is refl refl refl refl
