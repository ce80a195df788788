use Rattle.core_laws.proofs.OfParting.Counting.{counted_so}
use Rattle.core_laws.proofs.parting.given.counted_stands.Goals as goal

pub returns : goal.returns
returns c = counted_so c.given_up_stands.ensures c.seats_owe.ensures.answered
