use Rattle.shared_cases.proofs.Computed.{reply_so}
use Rattle.shared_cases.proofs.makes_reply.Goals as goal

pub returns : goal.returns
returns c = reply_so
