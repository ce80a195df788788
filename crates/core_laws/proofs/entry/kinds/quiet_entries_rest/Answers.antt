use Rattle.core_laws.proofs.OfEntry.Uneventful.{quiet_rests}
use Rattle.core_laws.proofs.entry.kinds.quiet_entries_rest.Goals as goal

pub returns : goal.returns
returns c = λ service g t roomy e rests quiet calm. quiet_rests service (c.counts_alone.ensures service) (c.freed_stands.ensures.test service) g t roomy rests calm e quiet
