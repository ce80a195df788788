use Rattle.step_laws.proofs.Seating.{counted_seats, told_counted}
use Rattle.core_laws.proofs.OfArrival.Newing.{come-so}
use Rattle.core_laws.proofs.arrival.comes.clients_come.Goals as goal

pub returns : goal.returns
returns c = λ service g t now port link salt statements note was comes none same.
    come-so (λ setup plan tale e are. told_counted setup plan tale e are) counted_seats c.statements_are_in_work.ensures c.rows_of_others_stay.ensures.all
    service g t now port link salt statements note was comes none same
