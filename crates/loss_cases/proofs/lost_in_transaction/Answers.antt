use Rattle.loss_cases.specs.Ending.{in_transaction, transaction_log}
use Rattle.loss_cases.proofs.Computed.{transaction_right}
use Rattle.loss_cases.proofs.lost_in_transaction.Goals as goal

pub returns : goal.returns
returns c = c.kept_by_test.ensures in_transaction transaction_log transaction_right
