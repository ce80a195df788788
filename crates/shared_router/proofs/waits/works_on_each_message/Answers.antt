use Rattle.shared_router.proofs.Worked.{worked_along}
use Rattle.shared_router.proofs.waits.works_on_each_message.Goals as goal

pub returns : goal.returns
returns c = λ fixed log numbered our asks.
    worked_along fixed numbered log our (c.is_lawful.ensures fixed log our) (c.ends_right.ensures fixed log numbered) (c.is_routed.ensures fixed log numbered our)
    (c.writes_what_it_begins.ensures fixed log numbered our) asks (c.waits_when_calm.ensures fixed log numbered our)
