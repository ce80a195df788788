use Rattle.core_laws.proofs.OfParting.Carrying.{home_carries, home_said}
use Rattle.core_laws.proofs.OfParting.Named.{row_carries}
use Rattle.core_laws.proofs.parting.frames.carried_homes.Goals as goal

pub returns-clause-row : goal.returns-clause-row
returns-clause-row c = row_carries

pub returns-clause-desk : goal.returns-clause-desk
returns-clause-desk c = home_said

pub returns-clause-there : goal.returns-clause-there
returns-clause-there c = λ service g t client row h l. home_carries service g t client row h l
