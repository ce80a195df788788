use Rattle.mem_rule.proofs.Unlocking.{unlocking}
use Rattle.mem_rule.proofs.laws.unlock_law.Goals as goal

pub returns : goal.returns
returns c = unlocking
