use Rattle.log_story.proofs.Moments.{private_from}
use Rattle.log_story.proofs.honest_bytes.Goals as goal
use Rattle.log_story.specs.Tale.{first_tale}

pub returns : goal.returns
returns c = λ setup plan tests server log tame accepted lawful honest. private_from setup tests plan server log first_tale
    (λ story. c.private_world.ensures setup tests server story tame accepted) lawful tt honest
