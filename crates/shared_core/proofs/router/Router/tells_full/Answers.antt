use Rattle.std.specs.Prelude.{false}
use Rattle.std.proofs.Common.{refl}
use Rattle.std.proofs.lemmas.Result.{on_ok_weaker}
use Rattle.core_laws.specs.clients.Turns.{Rests}
use Rattle.shared_core.specs.Stands.{tables}
use Rattle.shared_core.proofs.Goings.{stays-off}
use Rattle.shared_core.proofs.router.Router.tells_full.Goals as goal

pub returns-then-is_full-clause-parts : goal.returns-then-is_full-clause-parts
returns-then-is_full-clause-parts c = on_ok_weaker c.tells_last.result
    (λ parts. λ rested. parts c.args.service.now.buffer_budget (c.is_full.ensures c.if-is_full.true) rested) c.tells_last.ensures.parts

pub returns-else-is_full-clause-parts : goal.returns-else-is_full-clause-parts
returns-else-is_full-clause-parts c = λ rested.
    stays-off c.args.service.now.buffer_budget c.args.client false Rests (tables c.args.self.now) refl
