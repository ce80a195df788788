use Rattle.mem_rule.proofs.Tracking.{tracked}
use Rattle.mem_rule.proofs.laws.tracked_law.Goals as goal

pub returns : goal.returns
returns c = tracked
