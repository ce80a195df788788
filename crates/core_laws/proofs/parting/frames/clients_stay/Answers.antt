use Rattle.core_laws.proofs.OfParting.Staying.{client_stays}
use Rattle.core_laws.proofs.parting.frames.clients_stay.Goals as goal

pub returns : goal.returns
returns c = λ g client row e is apart. client_stays g client e apart c.others_stay.ensures c.coming_stays.ensures row is
