use Rattle.refusal_cases.specs.Refused.{full, full_log}
use Rattle.refusal_cases.proofs.Computed.{full_right}
use Rattle.refusal_cases.proofs.full_is_kept.Goals as goal

pub returns : goal.returns
returns c = c.kept_by_test.ensures full full_log full_right
