use Rattle.mem_rule.proofs.Flagging.{flags_law}
use Rattle.mem_rule.proofs.laws.flags_law.Goals as goal

pub returns : goal.returns
returns c = flags_law
