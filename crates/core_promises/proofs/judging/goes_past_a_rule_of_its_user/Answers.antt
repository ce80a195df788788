use Rattle.core_promises.proofs.Refusing.{refused-past}
use Rattle.core_promises.proofs.judging.goes_past_a_rule_of_its_user.Goals as goal

pub returns : goal.returns
returns c = λ terms text why route rule others sends are refuses unset. refused-past terms text why route rule others sends are refuses unset
