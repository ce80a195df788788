use Rattle.core_laws.proofs.OfParting.Homes.{homes_so}
use Rattle.core_laws.proofs.parting.frames.lawful_homes.Goals as goal

pub returns : goal.returns
returns c = homes_so
