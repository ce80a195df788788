use Rattle.core_laws.proofs.OfTaking.Laws.{dues}
use Rattle.core_laws.proofs.taking.taken.dues_stand.Goals as goal

pub returns : goal.returns
returns c = λ service g t other client row stands is. dues c.same_stands.ensures c.seats_stand.ensures service g t other client row stands is c.due_stands.ensures c.clients_stay.ensures c.servers_stay.ensures.all
