use Rattle.core_laws.proofs.OfEntry.Onward.{all_heard}
use Rattle.core_laws.proofs.entry.cores.all_are_heard.Goals as goal

pub returns : goal.returns
returns c = all_heard
