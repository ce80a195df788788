use Rattle.run_laws.proofs.Readable.{readable}
use Rattle.run_laws.proofs.executes_are_readable.Goals as goal

pub returns : goal.returns
returns c = λ setup story lawful became heard l. (readable setup story lawful became heard l).asked
