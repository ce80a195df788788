use Rattle.log_story.proofs.Keeping.{story_kept}
use Rattle.log_story.proofs.honest_story.Goals as goal

pub returns : goal.returns
returns c = λ setup plan server log honest. story_kept setup plan server log honest
