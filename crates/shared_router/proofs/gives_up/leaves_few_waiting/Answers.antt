use Rattle.shared_router.proofs.Fewer.{few_along}
use Rattle.shared_router.proofs.gives_up.leaves_few_waiting.Goals as goal

pub returns : goal.returns
returns c = λ fixed log numbered our patient asks.
    few_along fixed numbered log our (c.is_lawful.ensures fixed log our) (c.ends_right.ensures fixed log numbered) (c.is_routed.ensures fixed log numbered our)
    (c.works_on_what_is_wished.ensures fixed log numbered our) asks patient
