use Rattle.step_cases.specs.Evicted as evicted
use Rattle.step_cases.proofs.Computed.{evicted_right}
use Rattle.step_cases.proofs.evictions_are_kept.Goals as goal

pub returns : goal.returns
returns c = c.kept_by_test.ensures evicted.terms evicted.log evicted_right
