use Rattle.session_vars.proofs.Settable.{difference_settable}
use Rattle.session_vars.proofs.laws.difference_can_be_set.Goals as goal

pub returns : goal.returns
returns c = difference_settable
