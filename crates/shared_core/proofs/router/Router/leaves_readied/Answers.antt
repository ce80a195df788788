use Rattle.std.specs.Prelude.{None}
use Rattle.std.proofs.Common.{refl}
use Rattle.shared_core.proofs.Settles.{notes_so}
use Rattle.shared_core.proofs.router.Router.leaves_readied.Goals as goal

pub returns-clause-settles : goal.returns-clause-settles
returns-clause-settles c =
    notes_so c.in-Some-readied.link None c.args.client None c.args.self.now (record c.args.self.now { marked = c.unready.new.self }) c.unready.ensures.is refl
    refl refl refl
