use Rattle.refusal_cases.specs.Refused.{nowhere, nowhere_log}
use Rattle.refusal_cases.proofs.Computed.{nowhere_right}
use Rattle.refusal_cases.proofs.nowhere_is_kept.Goals as goal

pub returns : goal.returns
returns c = c.kept_by_test.ensures nowhere nowhere_log nowhere_right
