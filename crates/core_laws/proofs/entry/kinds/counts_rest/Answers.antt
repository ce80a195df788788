use Rattle.core_laws.proofs.OfEntry.Uneventful.{counted_rests}
use Rattle.core_laws.proofs.entry.kinds.counts_rest.Goals as goal

pub returns : goal.returns
returns c = λ service g t stands still rested.
    counted_rests service (c.freed_stands.ensures.test service) g t stands (c.counts_alone.ensures service g t stands still) rested
