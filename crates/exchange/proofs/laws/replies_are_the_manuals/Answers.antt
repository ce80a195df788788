use Rattle.exchange.proofs.Hearing.{heard-is}
use Rattle.exchange.proofs.laws.replies_are_the_manuals.Goals as goal

pub returns : goal.returns
returns c = λ form bytes small. heard-is form small bytes
