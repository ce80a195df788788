use Rattle.refusal_cases.specs.Refused.{refused, refused_log}
use Rattle.refusal_cases.proofs.Computed.{refused_right}
use Rattle.refusal_cases.proofs.refused_is_kept.Goals as goal

pub returns : goal.returns
returns c = c.kept_by_test.ensures refused refused_log refused_right
