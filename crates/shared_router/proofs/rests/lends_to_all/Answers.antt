use Rattle.shared_router.proofs.Lending.{all_have}
use Rattle.shared_router.proofs.rests.lends_to_all.Goals as goal

pub returns : goal.returns
returns c = λ k link key there free keyed alone. all_have k link key there free keyed alone
