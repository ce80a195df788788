use Rattle.mem_rule.proofs.Replying.{replying}
use Rattle.mem_rule.proofs.laws.reply_law.Goals as goal

pub returns : goal.returns
returns c = replying
