use Rattle.core_laws.proofs.OfParting.Standing.{stand_so, standing_at}
use Rattle.core_laws.proofs.parting.frames.lawful_statements.Goals as goal

pub returns : goal.returns
returns c = λ g l lawful. standing_at g l (stand_so g.setup g.tale.story lawful)
