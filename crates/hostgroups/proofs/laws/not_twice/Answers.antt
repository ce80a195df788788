use Rattle.hostgroups.proofs.Fairness.{not_twice}
use Rattle.hostgroups.proofs.laws.not_twice.Goals as goal

pub returns : goal.returns
returns c = not_twice
