use Rattle.core_laws.proofs.OfArrival.Looking.{looks-so}
use Rattle.core_laws.proofs.arrival.looks.clients_look.Goals as goal

pub returns : goal.returns
returns c = λ service g t now default client row was look same.
    looks-so c.statements_are_in_work.ensures c.rows_of_others_stay.ensures.all c.seats_log_in.ensures.goes c.seats_log_in.ensures.waits
    c.seats_log_in.ensures.enters c.seats_hear.ensures.next service g t now default client row was look same
