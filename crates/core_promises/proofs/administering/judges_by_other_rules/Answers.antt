use Rattle.log_story.specs.Telling.{tale_step}
use Rattle.router_promises.specs.Takings.{takings_at}
use Rattle.core_promises.proofs.Made.{all_judged}
use Rattle.core_promises.proofs.administering.judges_by_other_rules.Goals as goal

pub returns : goal.returns
returns c = λ outcomes setup plan tale e log was is along i k client at least less other.
    other
    (all_judged outcomes plan (takings_at setup plan tale e) was.rules tale.clients (tale_step setup plan tale e).clients was along.0 along.1.0 i k client at
    least less)
