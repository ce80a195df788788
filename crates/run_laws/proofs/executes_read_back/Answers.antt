use Rattle.run_laws.proofs.Reading.{reads_back}
use Rattle.run_laws.proofs.executes_read_back.Goals as goal

pub returns : goal.returns
returns c = reads_back
