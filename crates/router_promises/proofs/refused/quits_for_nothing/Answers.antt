use Rattle.private_model.specs.Commands.{Quit}
use Rattle.log_story.specs.Plan.{Asks}
use Rattle.router_promises.proofs.Cares.{may-step}
use Rattle.router_promises.proofs.Refusals.{kept-at, may-quit}
use Rattle.router_promises.proofs.refused.quits_for_nothing.Goals as goal

pub returns : goal.returns
returns c = λ terms before link bytes has there begins is none.
    may-quit terms before link none (may-step terms before link (Asks Quit) bytes (kept-at _ before has.more _ has.keeps.steps) there begins is)
