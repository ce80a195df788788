use Rattle.log_story.proofs.Honesty.{honest}
use Rattle.log_story.proofs.honest_log.Goals as goal

pub returns : goal.returns
returns c = λ setup plan server log says servers. honest setup plan server log says servers
