use Rattle.shared_router.proofs.Routing.{routes_kept}
use Rattle.shared_router.proofs.judges_each.Goals as goal

pub returns : goal.returns
returns c = λ fixed log numbered our. routes_kept fixed numbered log (c.is_prompt.ensures fixed log our)
