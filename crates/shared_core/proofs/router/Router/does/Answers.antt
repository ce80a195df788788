use Rattle.std.specs.Prelude.{Some, None}
use Rattle.std.proofs.Common.{refl}
use Rattle.router_laws.specs.wakes.Settling.{TakesBack}
use Rattle.shared_core.proofs.Settles.{notes_so, settles_so}
use Rattle.shared_core.proofs.router.Router.does.Goals as goal

pub returns-in-Ready-clause-settles : goal.returns-in-Ready-clause-settles
returns-in-Ready-clause-settles c =
    notes_so c.in-Ready.link (Some c.in-Ready.client) c.in-Ready.client (Some c.in-Ready.link) c.args.self.now
    (record c.args.self.now { marked = c.ready.new.self }) c.ready.ensures.is refl refl refl refl

pub returns-in-Unready-clause-settles : goal.returns-in-Unready-clause-settles
returns-in-Unready-clause-settles c =
    notes_so c.in-Unready.link None c.in-Unready.client None c.args.self.now (record c.args.self.now { marked = c.unready.new.self })
    c.unready.ensures.is refl refl refl refl

pub returns-in-TakeBack-clause-settles : goal.returns-in-TakeBack-clause-settles
returns-in-TakeBack-clause-settles c =
    settles_so (TakesBack c.in-TakeBack.link) c.args.self.now (record c.args.self.now { marked = c.take_back.new.self }) tt
    c.take_back.ensures.is refl refl refl refl
