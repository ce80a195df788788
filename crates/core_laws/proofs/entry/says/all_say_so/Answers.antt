use Rattle.core_laws.proofs.OfEntry.Speaking.{all_say}
use Rattle.core_laws.proofs.entry.says.all_say_so.Goals as goal

pub returns : goal.returns
returns c = all_say
