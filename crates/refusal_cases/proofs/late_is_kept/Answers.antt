use Rattle.refusal_cases.specs.Refused.{late, late_log}
use Rattle.refusal_cases.proofs.Computed.{late_right}
use Rattle.refusal_cases.proofs.late_is_kept.Goals as goal

pub returns : goal.returns
returns c = c.kept_by_test.ensures late late_log late_right
