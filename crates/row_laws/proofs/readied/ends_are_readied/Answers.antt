use Rattle.row_laws.proofs.Spelling.{capture_so, end_so}
use Rattle.row_laws.proofs.readied.ends_are_readied.Goals as goal

pub returns-clause-ends : goal.returns-clause-ends
returns-clause-ends c = end_so

pub returns-clause-captures : goal.returns-clause-captures
returns-clause-captures c = capture_so
