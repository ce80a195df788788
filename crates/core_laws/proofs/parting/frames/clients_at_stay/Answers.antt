use Rattle.core_laws.proofs.OfParting.Same.{at_stays}
use Rattle.core_laws.proofs.parting.frames.clients_at_stay.Goals as goal

pub returns : goal.returns
returns c = λ g t other client e is apart same named.
    at_stays g t other client e (c.clients_stay.ensures g client (t.clients client.number) e is.row apart) is same named
