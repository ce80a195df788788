use Rattle.shared_router.proofs.Furthering.{until_along}
use Rattle.shared_router.proofs.replies.due_goes_on.Goals as goal

pub returns : goal.returns
returns c = λ terms log stay. until_along terms log stay
