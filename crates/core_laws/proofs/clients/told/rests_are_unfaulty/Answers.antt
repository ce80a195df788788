use Rattle.core_laws.proofs.OfClients.Unfaulty.{turns_unfaulty}
use Rattle.core_laws.proofs.clients.told.rests_are_unfaulty.Goals as goal

pub returns : goal.returns
returns c = λ service default n choices old new row turns at serves answered. turns_unfaulty service default n choices old new row turns at serves answered
