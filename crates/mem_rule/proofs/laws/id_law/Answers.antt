use Rattle.mem_rule.proofs.Numbering.{numbering}
use Rattle.mem_rule.proofs.laws.id_law.Goals as goal

pub returns : goal.returns
returns c = numbering
