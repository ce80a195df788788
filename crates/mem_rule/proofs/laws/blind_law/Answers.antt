use Rattle.mem_rule.proofs.Blindness.{blindness}
use Rattle.mem_rule.proofs.laws.blind_law.Goals as goal

pub returns : goal.returns
returns c = blindness
