use Rattle.shared_cases.proofs.Computed.{transaction_so}
use Rattle.shared_cases.proofs.makes_transaction.Goals as goal

pub returns : goal.returns
returns c = transaction_so
