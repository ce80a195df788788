use Rattle.shared_router.proofs.Idling.{serves_along}
use Rattle.shared_router.proofs.waits.serves_all_while_idle.Goals as goal

pub returns : goal.returns
returns c = λ fixed log numbered our asks.
    serves_along fixed numbered log our (c.is_lawful.ensures fixed log our) (c.ends_right.ensures fixed log numbered) (c.is_routed.ensures fixed log numbered our)
    (c.works_on_what_is_wished.ensures fixed log numbered our) asks
