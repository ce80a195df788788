use Rattle.hostgroups.proofs.Fairness.{fair}
use Rattle.hostgroups.proofs.laws.full_round.Goals as goal

pub returns : goal.returns
returns c = fair
