use Rattle.std.proofs.Common.{refl}
use Rattle.std.proofs.lemmas.Result.{on_ok_weaker}
use Rattle.core_laws.specs.clients.Turns.{Waits}
use Rattle.shared_core.specs.Stands.{tables}
use Rattle.shared_core.proofs.Goings.{leaves-so, stays-off}
use Rattle.shared_core.proofs.router.Router.waits.Goals as goal

pub returns-then-ends-clause-parts : goal.returns-then-ends-clause-parts
returns-then-ends-clause-parts c = on_ok_weaker c.ends.result
    (λ leaves budget. leaves-so budget c.args.client c.args.ends Waits (tables c.args.self.now) (tables c.ends.new.self) c.if-ends.true refl leaves) c.ends.ensures.ends

pub returns-else-ends-clause-parts : goal.returns-else-ends-clause-parts
returns-else-ends-clause-parts c = λ budget. stays-off budget c.args.client c.args.ends Waits (tables c.args.self.now) c.if-ends.false
