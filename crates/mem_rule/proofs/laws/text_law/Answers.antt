use Rattle.mem_rule.proofs.Ordinary.{ordinary}
use Rattle.mem_rule.proofs.laws.text_law.Goals as goal

pub returns : goal.returns
returns c = ordinary
