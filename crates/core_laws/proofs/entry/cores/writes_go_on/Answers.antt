use Rattle.core_laws.proofs.OfEntry.Safely.{all_written_by}
use Rattle.core_laws.proofs.entry.cores.writes_go_on.Goals as goal

pub returns : goal.returns
returns c = all_written_by
