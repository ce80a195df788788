use Rattle.core_laws.proofs.OfEntry.Coming.{come_rests}
use Rattle.core_laws.proofs.OfEntry.Uneventful.{counted_rests}
use Rattle.core_laws.proofs.entry.kinds.arrivals_rest.Goals as goal

pub returns : goal.returns
returns c = λ service g t now roomy port link salt statements note rests coming none calm kept same.
    come_rests service g t now roomy port link salt rests calm coming kept
    (c.clients_come.ensures service g t now port link salt statements note rests.stands coming none same)
    (counted_rests service (c.freed_stands.ensures.test service) g t rests.stands (c.counts_alone.ensures service g t rests.stands calm.still) rests.rested)
