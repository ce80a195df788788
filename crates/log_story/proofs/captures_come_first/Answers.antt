use Rattle.log_story.proofs.Rules.{none_before}
use Rattle.log_story.proofs.captures_come_first.Goals as goal

pub returns : goal.returns
returns c = λ setup plan client message tale waits. none_before setup plan client message tale waits
