use Rattle.core_promises.proofs.Ended.{at-no-other, parted}
use Rattle.router_promises.specs.Terms.{plan_in, setup_in}
use Rattle.core_promises.proofs.ending.ends_at_any_time.Goals as goal

pub returns : goal.returns
returns c = λ terms before e client ended none.
    at-no-other (setup_in terms) (plan_in terms) before e client.number (parted terms before e client ended) none
