use Rattle.refusal_cases.specs.Refused.{spoilt, spoilt_log}
use Rattle.refusal_cases.proofs.Computed.{spoilt_right}
use Rattle.refusal_cases.proofs.spoilt_is_kept.Goals as goal

pub returns : goal.returns
returns c = c.kept_by_test.ensures spoilt spoilt_log spoilt_right
