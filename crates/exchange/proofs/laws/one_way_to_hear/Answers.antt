use Rattle.exchange.proofs.Hearing.{one-way}
use Rattle.exchange.proofs.laws.one_way_to_hear.Goals as goal

pub returns : goal.returns
returns c = λ form bytes one other small. one-way form small bytes one other
