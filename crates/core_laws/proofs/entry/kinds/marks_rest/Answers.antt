use Rattle.core_laws.proofs.OfEntry.Uneventful.{drop_rests, run_rests}
use Rattle.core_laws.proofs.entry.kinds.marks_rest.Goals as goal

pub returns : goal.returns
returns c = record {
  runs = λ service g t roomy l rests to_server calm.
      run_rests service (c.counts_alone.ensures service) (c.freed_stands.ensures.test service) g t roomy rests calm l (c.marks_stay.ensures.runs service g t l rests.stands to_server);
  drops = λ service g t roomy l rests calm.
      drop_rests service (c.counts_alone.ensures service) (c.freed_stands.ensures.test service) g t roomy rests calm l (c.marks_stay.ensures.drops service g t l rests.stands);
}
