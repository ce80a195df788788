use Rattle.mem_rule.proofs.Accounts.{account}
use Rattle.mem_rule.proofs.laws.account_law.Goals as goal

pub returns : goal.returns
returns c = account
