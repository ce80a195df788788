use Rattle.std.proofs.Common.{refl}
use Rattle.shared_core.proofs.LinkOpens.{opened_so}
use Rattle.shared_core.proofs.router.Router.opened.Goals as goal

pub returns-in-Some-clause-carries : goal.returns-in-Some-clause-carries
returns-in-Some-clause-carries c =
    opened_so c.opens_router.ensures c.args.service.now c.args.link c.args.self.now.asked c.in-Some.asked c.args.self.now
    (record c.args.self.now { asked = c.replace.new.dest }) c.opens.new.self c.opens.result c.in-Some.ensures.value refl c.opens.ensures.opens
    c.opens.ensures.keeps
