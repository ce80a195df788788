use Rattle.hostgroups.proofs.Fairness.{heaviest_apart}
use Rattle.hostgroups.proofs.laws.heaviest_apart.Goals as goal

pub returns : goal.returns
returns c = heaviest_apart
