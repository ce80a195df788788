use Rattle.std.specs.Prelude.{false}
use Rattle.std.proofs.Common.{refl}
use Rattle.std.proofs.lemmas.Result.{on_ok_weaker}
use Rattle.core_laws.specs.clients.Turns.{Rests}
use Rattle.shared_core.specs.Follows.{HasParted, IsRested}
use Rattle.shared_core.specs.Stands.{tables}
use Rattle.shared_core.proofs.Goings.{leaves-so, off-so}
use Rattle.shared_core.proofs.router.Router.rests.Goals as goal

pub returns-then-ends-clause-parts : goal.returns-then-ends-clause-parts
returns-then-ends-clause-parts c = on_ok_weaker c.ends.result
    (λ leaves. λ rested. leaves-so c.args.service.now.buffer_budget c.args.client c.args.ends Rests (tables c.args.self.now) (tables c.ends.new.self) c.if-ends.true refl leaves) c.ends.ensures.ends

pub returns-else-ends-clause-parts : goal.returns-else-ends-clause-parts
returns-else-ends-clause-parts c = on_ok_weaker c.measures.result
    (λ (parts : IsRested c.args.client (tables c.args.self.now)
    → HasParted c.args.service.now.buffer_budget c.args.client false Rests (tables c.args.self.now) (tables c.measures.new.self)). λ rested.
    off-so c.args.service.now.buffer_budget c.args.client c.args.ends Rests (tables c.args.self.now) (tables c.measures.new.self) c.if-ends.false (parts rested))
    c.measures.ensures.parts
