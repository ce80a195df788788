use Rattle.std.proofs.Common.{refl}
use Rattle.core_promises.proofs.judging.situations_are_promised.Goals as goal

pub returns-clause-transaction : goal.returns-clause-transaction
returns-clause-transaction c = λ terms taking. refl

pub returns-clause-user : goal.returns-clause-user
returns-clause-user c = λ terms taking. refl

pub returns-clause-pins : goal.returns-clause-pins
returns-clause-pins c = λ terms taking hostgroup. refl
