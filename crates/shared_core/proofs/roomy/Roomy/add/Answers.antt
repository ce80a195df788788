use Rattle.std.proofs.Common.{refl}
use Rattle.shared_core.proofs.Rooming.{kept}
use Rattle.shared_core.proofs.roomy.Roomy.add.Goals as goal

pub returns-in-Ok-clause-kept : goal.returns-in-Ok-clause-kept
returns-in-Ok-clause-kept c = kept c.args.client c.args.self.now _ refl c.in-Ok.ensures.keys
