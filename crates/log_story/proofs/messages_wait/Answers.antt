use Rattle.log_story.proofs.Rules.{none_taken}
use Rattle.log_story.proofs.messages_wait.Goals as goal

pub returns : goal.returns
returns c = λ setup plan client message tale full. none_taken setup plan client message tale full
