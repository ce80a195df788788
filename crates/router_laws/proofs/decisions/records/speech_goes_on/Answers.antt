use Rattle.router_laws.proofs.OfDecisions.Speaking.{spoken_then}
use Rattle.router_laws.proofs.decisions.records.speech_goes_on.Goals as goal

pub returns : goal.returns
returns c = spoken_then
