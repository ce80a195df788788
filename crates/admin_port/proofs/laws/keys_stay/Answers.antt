use Rattle.std.proofs.Common.{refl}
use Rattle.admin_port.proofs.laws.keys_stay.Goals as goal

pub returns-clause-servers : goal.returns-clause-servers
returns-clause-servers c = λ patterned staged key pairs sets. rw sets refl

pub returns-clause-rules : goal.returns-clause-rules
returns-clause-rules c = λ patterned staged id pairs sets. rw sets refl
