use Rattle.core_laws.proofs.OfClients.Keeping.{going_keeps_rows, turns_keep}
use Rattle.core_laws.proofs.clients.follows.follows_keep.Goals as goal

pub returns : goal.returns
returns c = record {
  turns = λ service default c choices halt old new turns. turns_keep service default c choices halt old new turns;
  all = λ service default going old new goes. going_keeps_rows service default going old new goes;
}
