use Rattle.core_says.proofs.Concerning.{client_quieter, number_quieter, server_quieter}
use Rattle.core_says.proofs.concerns.changes_concern.Goals as goal

pub returns : goal.returns
returns c = record {
  client = λ t who row link apart. client_quieter t who row link apart;
  server = λ t l row link off. server_quieter t l row link off;
  number = λ t l who link off. number_quieter t l who link off;
}
