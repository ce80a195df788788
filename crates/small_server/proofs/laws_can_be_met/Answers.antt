use Rattle.small_server.proofs.Lawfulness.{tally_tame}
use Rattle.small_server.proofs.laws_can_be_met.Goals as goal

pub returns : goal.returns
returns c = tally_tame
