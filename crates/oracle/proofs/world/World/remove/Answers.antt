use Rattle.std.proofs.Common.{◌∙◌}
use Rattle.oracle.proofs.Naming.{name_turned}
use Rattle.oracle.proofs.world.World.remove.Goals as goal

pub returns-clause-others : goal.returns-clause-others
returns-clause-others c = λ n other. c.remove.ensures.updates.2 n (name_turned c.args.name n ∙ other)
