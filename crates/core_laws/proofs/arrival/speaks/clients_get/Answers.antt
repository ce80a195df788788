use Rattle.core_laws.proofs.OfArrival.Getting.{gets-so, ungot-so}
use Rattle.core_laws.proofs.arrival.speaks.clients_get.Goals as goal

pub returns-clause-sent : goal.returns-clause-sent
returns-clause-sent c = λ service g t now link tag bytes n row was number there within same.
    gets-so c.statements_are_in_work.ensures c.rows_of_others_stay.ensures.all service g t now link tag bytes n row was number there within same

pub returns-clause-lost : goal.returns-clause-lost
returns-clause-lost c = ungot-so
