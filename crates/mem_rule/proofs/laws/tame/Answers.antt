use Rattle.mem_rule.proofs.Lawful.{tame}
use Rattle.mem_rule.proofs.laws.tame.Goals as goal

pub returns : goal.returns
returns c = tame
