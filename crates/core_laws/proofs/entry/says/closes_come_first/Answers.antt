use Rattle.core_laws.proofs.OfEntry.Speaking.{closes_first}
use Rattle.core_laws.proofs.entry.says.closes_come_first.Goals as goal

pub returns : goal.returns
returns c = λ service g t link tag bytes stands has to_server may. closes_first service g t link stands has to_server may
