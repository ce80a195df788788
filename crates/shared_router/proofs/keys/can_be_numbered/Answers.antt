use Rattle.shared_router.proofs.Numbering.{key_back, key_code, key_same}
use Rattle.shared_router.proofs.keys.can_be_numbered.Goals as goal

pub returns : goal.returns
returns c = λ fixed. (key_back, key_code, key_same)
