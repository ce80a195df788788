use Rattle.core_laws.proofs.OfArrival.Forgetting.{forgets-so}
use Rattle.core_laws.proofs.arrival.speaks.clients_are_forgotten.Goals as goal

pub returns : goal.returns
returns c = λ service g t now n was over same.
    forgets-so c.statements_are_in_work.ensures c.rows_of_others_stay.ensures.all c.same_stands.ensures service g t now n was over same
