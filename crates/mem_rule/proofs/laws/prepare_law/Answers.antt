use Rattle.mem_rule.proofs.Preparing.{preparing}
use Rattle.mem_rule.proofs.laws.prepare_law.Goals as goal

pub returns : goal.returns
returns c = preparing
