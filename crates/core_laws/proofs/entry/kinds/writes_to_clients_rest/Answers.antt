use Rattle.core_laws.proofs.OfEntry.Uneventful.{wrote_rests}
use Rattle.core_laws.proofs.entry.kinds.writes_to_clients_rest.Goals as goal

pub returns : goal.returns
returns c = λ service g t now roomy link tag bytes number row rests found there few calm same.
    wrote_rests service (c.counts_alone.ensures service) (c.freed_stands.ensures.test service) g t roomy rests calm now link tag bytes number found
    (c.clients_get.ensures.sent service g t now link tag bytes number row rests.stands found there few same)
