use Rattle.mem_rule.proofs.Resets.{reset}
use Rattle.mem_rule.proofs.laws.reset_law.Goals as goal

pub returns : goal.returns
returns c = reset
