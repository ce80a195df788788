use Rattle.router_laws.proofs.OfWakes.Settled.{settles_along, settles_one}
use Rattle.router_laws.proofs.wakes.settling.settling_goes_on.Goals as goal

pub returns-clause-one : goal.returns-clause-one
returns-clause-one c = settles_one

pub returns-clause-along : goal.returns-clause-along
returns-clause-along c = settles_along
