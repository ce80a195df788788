use Rattle.router_laws.proofs.OfDecisions.Learning.{forgets, learns}
use Rattle.router_laws.proofs.decisions.routers.routers_learn.Goals as goal

pub returns : goal.returns
returns c = record {
  more = λ service old new admin log t roomy router more. learns service old new admin log t roomy router more;
  less = λ service old new admin log t roomy router less keeps. forgets service old new admin log t roomy router less keeps;
}
