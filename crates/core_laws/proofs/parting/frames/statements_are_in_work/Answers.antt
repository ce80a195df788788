use Rattle.core_laws.proofs.OfParting.Reading.{in_work_so}
use Rattle.core_laws.proofs.parting.frames.statements_are_in_work.Goals as goal

pub returns : goal.returns
returns c = λ g t l row client is sound kept mine at. in_work_so g t t l row client is sound kept mine at
