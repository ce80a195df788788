use Rattle.std.specs.Prelude.{false}
use Rattle.std.proofs.Common.{refl}
use Rattle.core_laws.specs.clients.Turns.{Rests}
use Rattle.shared_core.specs.Stands.{tables}
use Rattle.shared_core.proofs.Goings.{stays-off}
use Rattle.shared_core.proofs.router.Router.measures.Goals as goal

pub returns-in-None-clause-parts : goal.returns-in-None-clause-parts
returns-in-None-clause-parts c = λ rested. stays-off c.args.service.now.buffer_budget c.args.client false Rests (tables c.args.self.now) refl
