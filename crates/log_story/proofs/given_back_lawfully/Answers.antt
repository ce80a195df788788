use Rattle.log_story.specs.Tale.{link_in, view_of}
use Rattle.log_story.proofs.Rules.{may_free}
use Rattle.log_story.proofs.given_back_lawfully.Goals as goal

pub returns : goal.returns
returns c = λ setup plan tale link is. may_free plan tale.moment (view_of setup tale) (tale.wires link) (link_in setup tale link) is
