use Rattle.core_laws.proofs.OfArrival.Speaking.{speaks-so, unheard-so}
use Rattle.core_laws.proofs.arrival.speaks.clients_speak.Goals as goal

pub returns-clause-kept : goal.returns-clause-kept
returns-clause-kept c = λ service g t now link bytes n row was number there unended same.
    speaks-so c.statements_are_in_work.ensures c.rows_of_others_stay.ensures.all c.seats_hear.ensures.hears service g t now link bytes n row was number there unended same

pub returns-clause-lost : goal.returns-clause-lost
returns-clause-lost c = unheard-so
