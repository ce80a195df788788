use Rattle.core_laws.proofs.OfEntry.Resting.{entry_rests}
use Rattle.core_laws.proofs.entry.entries.entries_rest.Goals as goal

pub returns : goal.returns
returns c = λ service g t now roomy room e over whose rests stands ends seated idle rooms own.
    entry_rests service g t now roomy room e over whose rests stands ends seated idle rooms own
