use Rattle.core_laws.proofs.OfTaking.Joining.{is_sent}
use Rattle.core_laws.proofs.taking.joins.dues_are_sent.Goals as goal

pub returns : goal.returns
returns c = is_sent
